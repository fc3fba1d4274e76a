use Rattle.std.proofs.Common.{◌∙◌, ◌+◌, ◌-◌, ◌≤◌, ◌<◌, ◌+ℤ◌, pos, ◌∷◌, List, length, drop, sym, ap, subst, refl, arith, rules, length-take, length-drop}
use Rattle.std.proofs.lemmas.List.{nil_from_length}
use Rattle.std.proofs.lemmas.Result.{on_ok_weaker}
use Rattle.qm_expand.specs.declared.values.Binding.{Binding}
use Rattle.qm_expand.specs.Steps.{Outcome, ◌>>=◌}
use Rattle.qm_expand.specs.Values.{Scope}
use Rattle.qm_expand.specs.Drafts.{Draft}
use Rattle.qm_expand.specs.Expansion.{turn_count, inside, each_turn}
use Rattle.qm_expand.specs.Walk.{Valued, Answers, walk}
use Rattle.qm_expand.specs.Views.{words_of, scope_in, draft_seen, value_seen}
use Rattle.qm_expand.proofs.DraftLemmas.{Answers-exit}
use Rattle.qm_expand.proofs.WalkLemmas.{walk-step, walk-nil, looped-at, inner-fits, scope_inside, turns-next, each_turn-none, popped, same_Ok}
use Rattle.qm_expand.proofs.walk.+walk.Goals as goal

pub body-step-requires : goal.body-step-requires
body-step-requires t c =
    let is = c.first_of-node.ensures in
    let rest = ap length is in
    let own = ap length c.upto-own.ensures ∙ length-take c.own_len-len.result c.after-behind.result.now in
    let behind = ap length c.after-behind.ensures ∙ length-drop 1 c.loop-rest.rest.now in
    let few = c.loop-rest.invariant.few in
    let from = c.loop-rest.invariant.from in
    let short = c.own_len-len.ensures.few in
    search rules

pub body-returns-in_err-step-clause-answers : goal.body-returns-in_err-step-clause-answers
body-returns-in_err-step-clause-answers t c = λ n h.
    let words = words_of c.args.context.now.source in
    let s = scope_in c.args.context.now c.loop-rest.stacks.names.items in
    let node = c.first_of-node.result in
    let behind = c.after-behind.result.now in
    let len = c.own_len-len.result in
    let old = c.loop-rest.invariant.walked n h in
    let step = walk-step words s c.loop-rest.at c.loop-rest.rest.now node behind c.upto-own.result.now (drop len behind) len
    (c.first_of-node.ensures ∙ ap (λ xs. node ∷ xs) (sym c.after-behind.ensures)) c.upto-own.ensures refl c.own_len-len.ensures.value old.0 (draft_seen c.loop-rest.draft) old.1 in
    Answers-exit _ _ _ _ (λ e. walk words step.k s (c.loop-rest.at + 1 + len) (drop len behind) e) _ c.from_residual.ensures.1
    (c.in_err-step.ensures.answers step.k step.own_fits) (sym old.2 ∙ step.same)

pub body-loop-rest-preserved : goal.body-loop-rest-preserved
body-loop-rest-preserved t c =
    let words = words_of c.args.context.now.source in
    let s = scope_in c.args.context.now c.loop-rest.stacks.names.items in
    let node = c.first_of-node.result in
    let behind = c.after-behind.result.now in
    let next = c.after-rest.result.now in
    let len = c.own_len-len.result in
    let is = c.first_of-node.ensures ∙ ap (λ xs. node ∷ xs) (sym c.after-behind.ensures) in
    let front = ap length is in
    let left = ap length c.after-rest.ensures ∙ length-drop len behind in
    let short = c.own_len-len.ensures.few in
    let few = c.loop-rest.invariant.few in
    let from = c.loop-rest.invariant.from in
    record {
      from = omega arith;
      few = omega arith;
      ranks = c.in_ok-step.ensures.ranks ∙ c.loop-rest.invariant.ranks;
      names = c.in_ok-step.ensures.names ∙ c.loop-rest.invariant.names;
      walked = λ n h.
          let old = c.loop-rest.invariant.walked n h in
          let step = walk-step words s c.loop-rest.at c.loop-rest.rest.now node behind c.upto-own.result.now next len
          is c.upto-own.ensures c.after-rest.ensures c.own_len-len.ensures.value old.0 (draft_seen c.loop-rest.draft) old.1 in (
            step.k,
            step.next_fits,
            ap (λ names. walk words step.k (scope_in c.args.context.now names) (c.loop-rest.at + 1 + len) next (draft_seen c.step.new.draft)) c.in_ok-step.ensures.names
                ∙ sym (step.same ∙ ap (λ o. o >>= λ e. walk words step.k s (c.loop-rest.at + 1 + len) next e) (c.in_ok-step.ensures.answers step.k step.own_fits)) ∙ old.2,
          );
    }

pub body-returns-clause-answers : goal.body-returns-clause-answers
body-returns-clause-answers t c = λ n h.
    let words = words_of c.args.context.now.source in
    let s = scope_in c.args.context.now c.loop-rest.stacks.names.items in
    let old = c.loop-rest.invariant.walked n h in
    let none = nil_from_length c.loop-rest.rest.now (search rules) in
    sym old.2 ∙ ap (λ xs. walk words old.0 s c.loop-rest.at xs (draft_seen c.loop-rest.draft)) none ∙ walk-nil words old.0 s c.loop-rest.at (draft_seen c.loop-rest.draft)

pub turn_loop-returns-in_err-turn-clause-answers : goal.turn_loop-returns-in_err-turn-clause-answers
turn_loop-returns-in_err-turn-clause-answers t c = λ n h.
    let words = words_of c.args.context.now.source in
    let s = scope_in c.args.context.now c.args.stacks.now.names.items in
    let node = c.args.node in
    let line = c.line-line.result in
    let a : Valued = value_seen c.in_ok-first.first in
    let b : Valued = value_seen c.in_ok-end.end in
    let inner = c.after-inner.result.now in
    let count = turn_count a.value b.value in
    let whole = looped-at words (walk words n) s c.args.number node c.args.own.now c.after-rest.result.now inner (draft_seen c.args.draft.now) a b line
    c.line-line.ensures c.after-rest.ensures c.after-inner.ensures c.in_ok-first.ensures.answers c.in_ok-end.ensures.answers in
    let fits = inner-fits n a.used b.used c.args.own.now c.after-rest.result.now inner c.after-rest.ensures c.after-inner.ensures h in
    let low : c.loop-k.k < count = let m = c.turn_count-k-end.ensures in omega (arith, c.loop-k-test.true) in
    Answers-exit _ _ _ _ _ _ c.from_residual-in_err-turn.ensures.1 (c.in_err-turn.ensures.answers n fits)
    (whole ∙ sym (c.loop-k.invariant.turned n h)
    ∙ turns-next (walk words n) (scope_in c.args.context.now c.loop-k.stacks.names.items) words line (c.args.number + a.used + b.used) count c.loop-k.k inner a.value (node.token + 1) c.turn_name-name.result (draft_seen c.loop-k.draft)
    low c.turn_name-name.ensures)

pub turn_loop-loop-k-preserved : goal.turn_loop-loop-k-preserved
turn_loop-loop-k-preserved t c = record {
  ranks = c.in_ok-turn.ensures.ranks ∙ c.loop-k.invariant.ranks;
  names = c.in_ok-turn.ensures.names ∙ c.loop-k.invariant.names;
  turned = λ n h.
      let words = words_of c.args.context.now.source in
      let node = c.args.node in
      let line = c.line-line.result in
      let a : Valued = value_seen c.in_ok-first.first in
      let b : Valued = value_seen c.in_ok-end.end in
      let inner = c.after-inner.result.now in
      let count = turn_count a.value b.value in
      let k = c.loop-k.k in
      let fits = inner-fits n a.used b.used c.args.own.now c.after-rest.result.now inner c.after-rest.ensures c.after-inner.ensures h in
      let low : k < count = let m = c.turn_count-k-end.ensures in omega (arith, c.loop-k-test.true) in
      let start = c.args.number + a.used + b.used in
      let left : List Binding → Draft → Outcome Draft = λ names f.
      each_turn line (λ i e. walk words n (inside (scope_in c.args.context.now names) (words.bytes (node.token + 1)) i) start inner e) (count - (k + 1)) (a.value +ℤ pos (k + 1)) f in
      ap (λ names. left names (draft_seen c.turn.new.draft)) c.in_ok-turn.ensures.names
      ∙ sym (turns-next (walk words n) (scope_in c.args.context.now c.loop-k.stacks.names.items) words line start count k inner a.value (node.token + 1) c.turn_name-name.result (draft_seen c.loop-k.draft) low c.turn_name-name.ensures
      ∙ ap (λ o. o >>= left c.loop-k.stacks.names.items) (c.in_ok-turn.ensures.answers n fits))
      ∙ c.loop-k.invariant.turned n h;
}

pub turn_loop-returns-clause-answers : goal.turn_loop-returns-clause-answers
turn_loop-returns-clause-answers t c = λ n h.
    let words = words_of c.args.context.now.source in
    let s = scope_in c.args.context.now c.args.stacks.now.names.items in
    let node = c.args.node in
    let line = c.line-line.result in
    let a : Valued = value_seen c.in_ok-first.first in
    let b : Valued = value_seen c.in_ok-end.end in
    let inner = c.after-inner.result.now in
    let count = turn_count a.value b.value in
    let whole = looped-at words (walk words n) s c.args.number node c.args.own.now c.after-rest.result.now inner (draft_seen c.args.draft.now) a b line
    c.line-line.ensures c.after-rest.ensures c.after-inner.ensures c.in_ok-first.ensures.answers c.in_ok-end.ensures.answers in
    let high : count ≤ c.loop-k.k = let m = c.turn_count-k-end.ensures in omega (arith, c.loop-k-test.false) in
    whole ∙ sym (c.loop-k.invariant.turned n h)
    ∙ each_turn-none line (λ i e. walk words n (inside (scope_in c.args.context.now c.loop-k.stacks.names.items) (words.bytes (node.token + 1)) i) (c.args.number + a.used + b.used) inner e) count c.loop-k.k a.value (draft_seen c.loop-k.draft) high

pub turn-returns-clause-answers : goal.turn-returns-clause-answers
turn-returns-clause-answers t c = λ n h.
    let context = c.args.context.now in
    let words = words_of context.source in
    let names = c.args.stacks.now.names.items in
    let body : Scope → Draft → Outcome Draft = λ s e. walk words n s c.args.number c.args.inner.now e in
    let named = scope_inside context.source context.scope names c.push_name.new.names.items c.args.name (sym (same_Ok _ _ c.in_ok-push_name.ensures)) in
    let whole = ap (λ o. o >>= body (inside (scope_in context names) (words.bytes c.args.name.token) c.args.name.value)) c.in_ok-turn.ensures.answers
    ∙ ap (λ s. body s (draft_seen c.turn.new.self)) (sym named) in
    subst (Answers _ _) (sym whole) (c.body-done.ensures.answers n h)

pub turn-returns-clause-names : goal.turn-returns-clause-names
turn-returns-clause-names t c =
    let inner = c.body-done.new.stacks.names in
    on_ok_weaker c.body-done.result
    (λ same. popped c.args.stacks.now.names.items inner.items c.pop.new.self.items c.args.name inner.len (same ∙ sym (same_Ok _ _ c.in_ok-push_name.ensures)) inner.ok.0 c.pop.ensures.rest)
    c.body-done.ensures.names
