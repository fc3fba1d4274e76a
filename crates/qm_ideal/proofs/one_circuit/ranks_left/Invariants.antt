use Rattle.std.proofs.Common.{◌≡◌, ◌-◌, ◌≤◌}
use Rattle.qm_ideal.specs.OneCircuits.{left_from}
use Rattle.qm_ideal.specs.Views.{tables_of}
use Rattle.qm_ideal.proofs.one_circuit.ranks_left.Given as goal

abbrev pub invariant-loop-k : goal.invariant-loop-k
invariant-loop-k l = (l.left ≡ left_from l.input (tables_of l.tables) (l.ranks - l.k) l.k) × (l.k ≤ l.ranks)
