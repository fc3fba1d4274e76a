use Rattle.std.proofs.Common.{◌≡◌, ℕ, ◌<◌, ◌≤◌, length}
use Rattle.std.specs.Vec.{vec_capacity}
use Rattle.qm_zomega.specs.NumberLists.{number_at, meant_at}
use Rattle.qm_store.proofs.lists.widen_list.Given as goal

abbrev pub invariant-loop-k : goal.invariant-loop-k
invariant-loop-k g l = record {
  size : length l.wide.items ≡ l.k;
  numbers : (j : ℕ) → j < l.k → number_at l.wide.items j ≡ meant_at g.Z.Numerator.meaning l.slim j;
  room : vec_capacity l.initial.wide ≤ vec_capacity l.wide;
}
