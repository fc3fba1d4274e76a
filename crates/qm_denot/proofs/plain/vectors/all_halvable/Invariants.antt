use Rattle.std.proofs.Common.{ℕ, ◌<◌}
use Rattle.qm_zomega.specs.Numbers.{IsDivisible}
use Rattle.qm_zomega.specs.NumberLists.{number_at}
use Rattle.qm_denot.proofs.plain.vectors.all_halvable.Given as goal

abbrev pub invariant-loop-k : goal.invariant-loop-k
invariant-loop-k l = (j : ℕ) → j < l.k → IsDivisible (number_at l.numerators j)
