use Rattle.std.proofs.Common.{◌≡◌, ℕ, ◌<◌, ◌≤◌}
use Rattle.qm_zomega.specs.Numbers.{root2_of}
use Rattle.qm_zomega.specs.NumberLists.{number_at}
use Rattle.qm_denot.proofs.plain.vectors.halve_all.Given as goal

abbrev pub invariant-loop-k : goal.invariant-loop-k
invariant-loop-k l = record {
  done : (j : ℕ) → j < l.k → root2_of (number_at l.numerators j) ≡ number_at l.initial.numerators j;
  rest : (j : ℕ) → l.k ≤ j → number_at l.numerators j ≡ number_at l.initial.numerators j;
}
