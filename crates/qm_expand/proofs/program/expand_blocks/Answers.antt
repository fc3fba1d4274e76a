use Rattle.std.proofs.Common.{◌≡◌, ◌∙◌, ℕ, suc, ◌+◌, ◌-◌, ◌≤◌, cond, Bool, true, false, length, sym, ap, subst, arith, length-take, length-drop}
use Rattle.std.proofs.lemmas.List.{nil_from_length}
use Rattle.std.proofs.lemmas.Bool.{eqb-true}
use Rattle.qm_expand.specs.declared.draft.Draft.{Draft}
use Rattle.qm_expand.specs.Steps.{◌>>=◌}
use Rattle.qm_expand.specs.Walk.{blocks_walked, is_all}
use Rattle.qm_expand.specs.Views.{words_of, draft_seen}
use Rattle.qm_expand.proofs.DraftLemmas.{Answers-exit}
use Rattle.qm_expand.proofs.ProgramLemmas.{block-none, block-some}
use Rattle.qm_expand.proofs.program.expand_blocks.Goals as goal
use Rattle.qm_expand.proofs.program.expand_blocks.Goals.{then-not-is_empty+in_ok-expand_block, else-not-is_empty}

either : (b : Bool) (m n k : ℕ) → m ≤ k → n ≤ k → cond b m n ≤ k
either true m n k p q = p
either false m n k p q = q

pub returns-in_err-expand_block-clause-answers : goal.returns-in_err-expand_block-clause-answers
returns-in_err-expand_block-clause-answers c =
    let words = words_of c.args.source.now in
    let nodes = c.args.nodes.now in
    let left = c.args.ranks - (c.loop-rank.rank + 1) in
    let more : c.args.ranks - c.loop-rank.rank ≡ suc left = omega (arith, c.loop-rank-test.true) in
    let own = ap length c.upto-own.ensures ∙ length-take c.own_len-len.result c.after-behind.result.now in
    let behind = ap length c.after-behind.ensures ∙ length-drop 1 c.after-rest.result.now in
    let rest = ap length c.after-rest.ensures ∙ length-drop c.loop-rank.at nodes in
    let fits : length c.upto-own.result.now ≤ length nodes = omega arith in
    Answers-exit _ _ _ _ _ _ c.from_residual.ensures.1 (c.in_err-expand_block.ensures.answers (length nodes) fits)
    (sym c.loop-rank.invariant.rest
    ∙ block-some words nodes c.args.head (c.args.ranks - c.loop-rank.rank) left c.loop-rank.rank c.loop-rank.at c.loop-rank.used (draft_seen c.loop-rank.draft) more
    c.first_of-block.result c.after-rest.result.now c.after-behind.result.now c.upto-own.result.now c.own_len-len.result
    c.after-rest.ensures c.first_of-block.ensures c.after-behind.ensures c.own_len-len.ensures.value c.upto-own.ensures)

pub loop-rank-preserved : goal.loop-rank-preserved
loop-rank-preserved c =
    let words = words_of c.args.source.now in
    let nodes = c.args.nodes.now in
    let rank = c.loop-rank.rank in
    let at = c.loop-rank.at in
    let left = c.args.ranks - (rank + 1) in
    let more : c.args.ranks - rank ≡ suc left = omega (arith, c.loop-rank-test.true) in
    let rest = ap length c.after-rest.ensures ∙ length-drop at nodes in
    elim c.if-not-is_empty.branch [
      | then-not-is_empty+in_ok-expand_block w ↦
          let block = w.first_of-block.result in
          let len = w.own_len-len.result in
          let own = ap length w.upto-own.ensures ∙ length-take len w.after-behind.result.now in
          let behind = ap length w.after-behind.ensures ∙ length-drop 1 c.after-rest.result.now in
          let some = ap length w.first_of-block.ensures in
          let short = w.own_len-len.ensures.few in
          let low = c.loop-rank.invariant.at in
          let fits : length w.upto-own.result.now ≤ length nodes = omega arith in
          let next : at + 1 + len ≤ length nodes = omega arith in
          let step = block-some words nodes c.args.head (c.args.ranks - rank) left rank at c.loop-rank.used (draft_seen c.loop-rank.draft) more
          block c.after-rest.result.now w.after-behind.result.now w.upto-own.result.now len
          c.after-rest.ensures w.first_of-block.ensures w.after-behind.ensures w.own_len-len.ensures.value w.upto-own.ensures in
          let walked = w.in_ok-expand_block.ensures.answers (length nodes) fits in
          let at_is = w.at-is ∙ w.next_block-at.ensures in
          record {
            at = subst (λ k. k ≤ length nodes) (sym at_is) (either (is_all block.what) at (at + 1 + len) (length nodes) low next);
            used = subst (λ k. k ≤ length nodes) (sym w.used-is) next;
            ranks = ap (λ (d : Draft). length d.input.ranks) w.draft-is ∙ w.in_ok-expand_block.ensures.ranks ∙ c.loop-rank.invariant.ranks;
            rest =
                ap (λ k. blocks_walked words nodes c.args.head left (rank + 1) k c.if-not-is_empty.used (draft_seen c.if-not-is_empty.draft)) at_is
                ∙ ap (λ k. blocks_walked words nodes c.args.head left (rank + 1) (cond (is_all block.what) at (at + 1 + len)) k (draft_seen c.if-not-is_empty.draft)) w.used-is
                ∙ ap (λ (d : Draft). blocks_walked words nodes c.args.head left (rank + 1) (cond (is_all block.what) at (at + 1 + len)) (at + 1 + len) (draft_seen d)) w.draft-is
                ∙ sym (step ∙ ap (λ o. o >>= λ e. blocks_walked words nodes c.args.head left (rank + 1) (cond (is_all block.what) at (at + 1 + len)) (at + 1 + len) e) walked)
                ∙ c.loop-rank.invariant.rest;
          }
      | else-not-is_empty w ↦
          let none = sym c.after-rest.ensures ∙ nil_from_length c.after-rest.result.now (eqb-true (length c.after-rest.result.now) 0 (sym w.if-not-is_empty.ensures)) in
          record {
            at = subst (λ k. k ≤ length nodes) (sym w.at-is) c.loop-rank.invariant.at;
            used = subst (λ k. k ≤ length nodes) (sym w.used-is) c.loop-rank.invariant.used;
            ranks = ap (λ (d : Draft). length d.input.ranks) w.draft-is ∙ c.loop-rank.invariant.ranks;
            rest =
                ap (λ k. blocks_walked words nodes c.args.head left (rank + 1) k c.if-not-is_empty.used (draft_seen c.if-not-is_empty.draft)) w.at-is
                ∙ ap (λ k. blocks_walked words nodes c.args.head left (rank + 1) at k (draft_seen c.if-not-is_empty.draft)) w.used-is
                ∙ ap (λ (d : Draft). blocks_walked words nodes c.args.head left (rank + 1) at c.loop-rank.used (draft_seen d)) w.draft-is
                ∙ sym (block-none words nodes c.args.head (c.args.ranks - rank) left rank at c.loop-rank.used (draft_seen c.loop-rank.draft) more none)
                ∙ c.loop-rank.invariant.rest;
          }
    ]
