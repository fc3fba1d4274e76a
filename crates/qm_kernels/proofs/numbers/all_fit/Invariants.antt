use Rattle.std.proofs.Common.{ℕ, ◌<◌}
use Rattle.qm_zomega.specs.Numbers.{◌⊕◌, ◌⊖◌}
use Rattle.qm_zomega.specs.NumberLists.{meant_at}
use Rattle.qm_kernels.proofs.numbers.all_fit.Given as goal

abbrev pub invariant-loop-i : goal.invariant-loop-i
invariant-loop-i g l = (j : ℕ) → j < l.i
    → g.Z.Numerator.holds (meant_at g.Z.Numerator.meaning l.low j ⊕ meant_at g.Z.Numerator.meaning l.high j)
    × g.Z.Numerator.holds (meant_at g.Z.Numerator.meaning l.low j ⊖ meant_at g.Z.Numerator.meaning l.high j)
