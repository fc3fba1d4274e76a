use Rattle.std.proofs.Common.{◌≡◌, ℕ, ◌+◌, ◌*◌, ◌-◌, ◌≤◌, ◌+ℤ◌, pos, length}
use Rattle.qm_expand.specs.Expansion.{turn_count, each_turn, inside}
use Rattle.qm_expand.specs.Walk.{walk}
use Rattle.qm_expand.specs.Views.{words_of, scope_in, draft_seen}
use Rattle.qm_expand.proofs.walk.+walk.Given as goal

abbrev pub decreases-body : goal.decreases-body
decreases-body l = 4 * length l.nodes.now

abbrev pub decreases-step : goal.decreases-step
decreases-step l = 4 * length l.own.now + 3

abbrev pub decreases-turn_loop : goal.decreases-turn_loop
decreases-turn_loop l = 4 * length l.own.now + 2

abbrev pub decreases-turn : goal.decreases-turn
decreases-turn l = 4 * length l.inner.now + 1

abbrev pub decreases-body-loop-rest : goal.decreases-body-loop-rest
decreases-body-loop-rest l = length l.rest

abbrev pub invariant-body-loop-rest : goal.invariant-body-loop-rest
invariant-body-loop-rest l =
    let words = words_of l.context.source in
    record {
      from : l.number ≤ l.at;
      few : l.at + length l.rest ≡ l.number + length l.nodes;
      ranks : length l.draft.input.ranks ≡ length l.fn.draft.input.ranks;
      names : l.stacks.names.items ≡ l.fn.stacks.names.items;
      walked : (n : ℕ) → length l.nodes ≤ n
          → (m : ℕ) × (length l.rest ≤ m)
          × (walk words m (scope_in l.context l.stacks.names.items) l.at l.rest (draft_seen l.draft) ≡ walk words n (scope_in l.context l.fn.stacks.names.items) l.number l.nodes (draft_seen l.fn.draft));
    }

abbrev pub invariant-turn_loop-loop-k : goal.invariant-turn_loop-loop-k
invariant-turn_loop-loop-k l =
    let words = words_of l.context.source in
    let count = turn_count l.first.value l.end.value in
    record {
      ranks : length l.draft.input.ranks ≡ length l.fn.draft.input.ranks;
      names : l.stacks.names.items ≡ l.fn.stacks.names.items;
      turned : (n : ℕ) → length l.own ≤ n
          → each_turn l.line (λ i e. walk words n (inside (scope_in l.context l.stacks.names.items) (words.bytes (l.node.token + 1)) i) l.start l.inner e) (count - l.k) (l.first.value +ℤ pos l.k) (draft_seen l.draft)
          ≡ each_turn l.line (λ i e. walk words n (inside (scope_in l.context l.fn.stacks.names.items) (words.bytes (l.node.token + 1)) i) l.start l.inner e) count l.first.value (draft_seen l.fn.draft);
    }
