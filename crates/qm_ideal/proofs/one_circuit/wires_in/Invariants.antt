use Rattle.std.proofs.Common.{◌≡◌}
use Rattle.qm_ideal.specs.OneCircuits.{wires_in}
use Rattle.qm_ideal.specs.Views.{slots_at}
use Rattle.qm_ideal.proofs.one_circuit.wires_in.Given as goal

abbrev pub invariant-loop-rank : goal.invariant-loop-rank
invariant-loop-rank l = l.wires.items ≡ wires_in (slots_at l.tables.ranks.items) l.rank
