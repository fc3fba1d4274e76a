use Rattle.std.proofs.Common.{◌≡◌, ◌++◌}
use Rattle.qm_ideal.specs.OneCircuits.{wires_below}
use Rattle.qm_ideal.specs.Views.{slots_at}
use Rattle.qm_ideal.proofs.one_circuit.push_wires.Given as goal

abbrev pub invariant-loop-q : goal.invariant-loop-q
invariant-loop-q l = l.wires.items ≡ l.initial.wires.items ++ wires_below (slots_at l.tables.ranks.items l.rank) l.q
