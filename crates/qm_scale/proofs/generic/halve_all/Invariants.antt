use Rattle.std.proofs.Common.{◌≡◌, ℕ, ◌<◌, ◌≤◌}
use Rattle.qm_zomega.specs.Numbers.{root2_of}
use Rattle.qm_zomega.specs.NumberLists.{meant_at}
use Rattle.qm_scale.proofs.generic.halve_all.Given as goal

abbrev pub invariant-loop-i : goal.invariant-loop-i
invariant-loop-i g l = record {
  before : (j : ℕ) → j < l.i → root2_of (meant_at g.Z.Numerator.meaning l.list j) ≡ meant_at g.Z.Numerator.meaning l.fn.list j;
  after : (j : ℕ) → l.i ≤ j → meant_at g.Z.Numerator.meaning l.list j ≡ meant_at g.Z.Numerator.meaning l.fn.list j;
}
