use Rattle.std.proofs.Common.{◌∙◌, sym, ap, ◌+◌, ◌<◌, drop, length, Err, cond, arith}
use Rattle.std.specs.Prelude.{slice_get}
use Rattle.qm_expand.specs.Steps.{◌>>=◌, OutOfRange}
use Rattle.qm_expand.specs.Drafts.{with_each}
use Rattle.qm_expand.specs.Expansion.{can_be_called, part_of}
use Rattle.qm_expand.specs.declared.draft.Draft.{Draft}
use Rattle.qm_expand.specs.Views.{draft_seen}
use Rattle.qm_expand.proofs.DraftLemmas.{Answers-exit, each_more, some_within}
use Rattle.qm_expand.proofs.draft.Draft.share.Goals as goal
use Rattle.qm_expand.proofs.draft.Draft.share.Goals.{in-Some+in_ok-add, in_default}

pub returns-in_err-add-clause-answers : goal.returns-in_err-add-clause-answers
returns-in_err-add-clause-answers c =
    let is = part_of c.args.which c.args.scope.rank c.args.scope.ranks in
    let line = c.args.line in
    let rank = c.args.scope.rank in
    let all = c.ranks-ranks.ensures.value ∙ sym c.requires.ranks in
    let found = ap (λ n. slice_get (part_of c.args.which rank n) c.loop-j.j) (sym all) ∙ sym c.in-Some.ensures in
    let called = ap (λ n. can_be_called n c.args.which) (sym all) ∙ sym c.if-not-can_be_called.ensures in
    Answers-exit _ _ _ _ (with_each line rank (drop (c.loop-j.j + 1) is)) _ c.from_residual.ensures.1 c.in_err-add.ensures.answers
    (ap (λ b. cond b (with_each line rank is (draft_seen c.args.self.now)) (Err (OutOfRange line))) called
    ∙ sym c.loop-j.invariant.rest ∙ each_more line rank is c.loop-j.j c.in-Some.i (draft_seen c.loop-j.self) found)

pub loop-j-preserved : goal.loop-j-preserved
loop-j-preserved c =
    let is = part_of c.args.which c.args.scope.rank c.args.scope.ranks in
    let line = c.args.line in
    let rank = c.args.scope.rank in
    let all = c.ranks-ranks.ensures.value ∙ sym c.requires.ranks in
    elim c.match-part_at.branch [
      | in-Some+in_ok-add w ↦
          let found = ap (λ n. slice_get (part_of c.args.which rank n) c.loop-j.j) (sym all) ∙ sym w.in-Some.ensures in
          let rest = drop (c.loop-j.j + 1) is in
          record {
            ranks = ap (λ (d : Draft). length d.input.ranks) w.self-is ∙ w.in_ok-add.ensures.ranks ∙ c.loop-j.invariant.ranks;
            rest =
                ap (λ (d : Draft). with_each line rank rest (draft_seen d)) w.self-is
                ∙ sym (ap (λ o. o >>= with_each line rank rest) w.in_ok-add.ensures.answers)
                ∙ sym (each_more line rank is c.loop-j.j w.in-Some.i (draft_seen c.loop-j.self) found)
                ∙ c.loop-j.invariant.rest;
          }
      | in_default w ↦
          let low : c.loop-j.j < length (part_of c.args.which rank c.ranks-ranks.result) = let n = c.part_len-j-end.ensures in omega arith in
          let some = some_within (part_of c.args.which rank c.ranks-ranks.result) c.loop-j.j low in
          absurd (w.in_default.not-Some some.0 (c.part_at.ensures ∙ some.1))
    ]
