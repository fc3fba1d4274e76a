use Rattle.std.proofs.Common.{◌≡◌, ℕ, ◌<◌, ◌≤◌, length}
use Rattle.std.specs.Vec.{vec_capacity}
use Rattle.qm_denot.specs.Plain.{number_after}
use Rattle.qm_zomega.specs.NumberLists.{number_at}
use Rattle.qm_denot.proofs.plain.rules.fill.Given as goal

abbrev pub invariant-loop-k : goal.invariant-loop-k
invariant-loop-k l = record {
  size : length l.into.items ≡ l.k;
  numbers : (j : ℕ) → j < l.k → number_at l.into.items j ≡ number_after l.rule l.from j;
  room : vec_capacity l.initial.into ≤ vec_capacity l.into;
}
