use Rattle.std.proofs.Common.{◌≡◌, ◌≤◌, drop, length}
use Rattle.qm_expand.specs.Walk.{gathered, gathered_all}
use Rattle.qm_expand.specs.Views.{words_of, scope_in, operands_seen, kept}
use Rattle.qm_expand.proofs.operands.gather.Given as goal

abbrev pub invariant-loop-k : goal.invariant-loop-k
invariant-loop-k l =
    let words = words_of l.context.source in
    let s = scope_in l.context l.names.items in
    record {
      used : l.found.used ≤ length l.nodes;
      kinds : length l.kinds ≡ 4;
      few : kept l.found ≤ l.k;
      rest : gathered words l.line s l.nodes (drop l.k l.kinds) (operands_seen l.found) ≡ gathered_all words l.line s l.nodes l.kinds;
    }
