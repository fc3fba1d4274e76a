use Rattle.std.proofs.Common.{◌≡◌, ◌≤◌, ◌-◌, drop, length, reverse}
use Rattle.qm_expand.specs.Walk.{value_from, value_at}
use Rattle.qm_expand.specs.Views.{words_of, scope_in}
use Rattle.qm_expand.proofs.values.value.Given as goal

abbrev pub invariant-loop-used : goal.invariant-loop-used
invariant-loop-used l =
    let words = words_of l.context.source in
    let s = scope_in l.context l.names.items in
    record {
      within : l.used ≤ length l.nodes;
      rest : value_from words l.line s l.used (reverse l.numbers.items) (drop l.used l.nodes) ≡ value_at words l.line s l.nodes;
    }

abbrev pub decreases-loop-used : goal.decreases-loop-used
decreases-loop-used l = length l.nodes - l.used
