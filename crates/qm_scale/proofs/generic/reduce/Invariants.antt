use Rattle.std.proofs.Common.{◌≡◌, ℕ, ◌-◌, ◌≤◌}
use Rattle.qm_zomega.specs.Numbers.{root2_times}
use Rattle.qm_zomega.specs.NumberLists.{meant_at}
use Rattle.qm_scale.proofs.generic.reduce.Given as goal

abbrev pub invariant-loop-left : goal.invariant-loop-left
invariant-loop-left g l = record {
  lower : l.left ≤ l.fn.exponent;
  same : (i : ℕ) → root2_times (l.fn.exponent - l.left) (meant_at g.Z.Numerator.meaning l.list i) ≡ meant_at g.Z.Numerator.meaning l.fn.list i;
}

abbrev pub decreases-loop-left : goal.decreases-loop-left
decreases-loop-left g l = l.left
