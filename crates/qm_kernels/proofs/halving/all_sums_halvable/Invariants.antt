use Rattle.std.proofs.Common.{ℕ, ◌<◌}
use Rattle.qm_zomega.specs.Numbers.{◌⊕◌, ◌⊖◌, IsDivisible}
use Rattle.qm_zomega.specs.NumberLists.{meant_at}
use Rattle.qm_kernels.proofs.halving.all_sums_halvable.Given as goal

abbrev pub invariant-loop-i : goal.invariant-loop-i
invariant-loop-i g l = (j : ℕ) → j < l.i
    → IsDivisible (meant_at g.Z.Numerator.meaning l.low j ⊕ meant_at g.Z.Numerator.meaning l.high j)
    × IsDivisible (meant_at g.Z.Numerator.meaning l.low j ⊖ meant_at g.Z.Numerator.meaning l.high j)
