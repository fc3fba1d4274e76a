use Rattle.std.proofs.Common.{◌≡◌, ℕ, ◌<◌}
use Rattle.qm_zomega.specs.Numbers.{zero_number}
use Rattle.qm_zomega.specs.NumberLists.{meant_at}
use Rattle.qm_scale.proofs.generic.all_zero.Given as goal

abbrev pub invariant-loop-i : goal.invariant-loop-i
invariant-loop-i g l = (j : ℕ) → j < l.i → meant_at g.Z.Numerator.meaning l.list j ≡ zero_number
