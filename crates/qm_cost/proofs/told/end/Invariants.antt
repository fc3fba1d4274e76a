use Rattle.std.proofs.Common.{ℕ, ◌<◌, ◌≤◌, length}
use Rattle.qm_cost.specs.Longest.{finish_in}
use Rattle.qm_cost.proofs.told.end.Given as goal

abbrev pub invariant-loop-j : goal.invariant-loop-j
invariant-loop-j l = record {
  known : l.last < length l.marks;
  most : (k : ℕ) → k < l.j → finish_in l.marks k ≤ finish_in l.marks l.last;
  least : (k : ℕ) → k < l.last → finish_in l.marks k < finish_in l.marks l.last;
}
