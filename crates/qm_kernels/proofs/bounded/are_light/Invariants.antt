use Rattle.std.proofs.Common.{ℕ, ◌<◌}
use Rattle.qm_zomega.specs.NumberLists.{meant_at}
use Rattle.qm_zomega.specs.Range.{IsBelow}
use Rattle.qm_kernels.proofs.bounded.are_light.Given as goal

abbrev pub invariant-loop-i : goal.invariant-loop-i
invariant-loop-i g l = (j : ℕ) → j < l.i → IsBelow g.Z.Slim.LIGHT_BITS (meant_at g.Z.Numerator.meaning l.list j)
