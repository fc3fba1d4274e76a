use Rattle.std.proofs.Common.{ℕ, ◌<◌}
use Rattle.qm_zomega.specs.NumberLists.{number_at}
use Rattle.qm_kernels.specs.Small.{IsSmall}
use Rattle.qm_kernels.proofs.small.all_small.Given as goal

abbrev pub invariant-loop-i : goal.invariant-loop-i
invariant-loop-i l = (j : ℕ) → j < l.i → IsSmall (number_at l.list j)
