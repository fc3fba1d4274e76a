use Rattle.std.proofs.Common.{◌≡◌, ℕ, ◌≤◌, ◌-◌}
use Rattle.qm_zomega.specs.Numbers.{root2_times}
use Rattle.qm_zomega.specs.NumberLists.{number_at}
use Rattle.qm_denot.proofs.plain.vectors.reduce.Given as goal

abbrev pub invariant-loop-exponent : goal.invariant-loop-exponent
invariant-loop-exponent l = record {
  lower : l.exponent ≤ l.initial.exponent;
  same : (i : ℕ) → root2_times (l.initial.exponent - l.exponent) (number_at l.numerators i) ≡ number_at l.initial.numerators i;
}

abbrev pub decreases-loop-exponent : goal.decreases-loop-exponent
decreases-loop-exponent l = l.exponent
