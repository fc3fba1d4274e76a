use Rattle.std.proofs.Common.{◌≡◌, ℕ, ◌<◌, ◌≤◌, length}
use Rattle.std.specs.Vec.{vec_capacity}
use Rattle.qm_zomega.specs.Range.{FitsZw}
use Rattle.qm_denot.specs.LettersByPlace.{had_at}
use Rattle.qm_zomega.specs.NumberLists.{number_at}
use Rattle.qm_denot.proofs.plain.vectors.fill_had.Given as goal

abbrev pub invariant-loop-k : goal.invariant-loop-k
invariant-loop-k l = record {
  size : length l.into.items ≡ l.k;
  numbers : (j : ℕ) → j < l.k → number_at l.into.items j ≡ had_at l.place (number_at l.from) j;
  fits : (j : ℕ) → j < l.k → FitsZw (had_at l.place (number_at l.from) j);
  room : vec_capacity l.initial.into ≤ vec_capacity l.into;
}
