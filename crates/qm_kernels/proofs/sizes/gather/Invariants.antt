use Rattle.std.proofs.Common.{◌≡◌, ℕ, ◌-◌, ◌*◌, length}
use Rattle.qm_kernels.specs.Done.{GatheredTo}
use Rattle.qm_kernels.proofs.sizes.gather.Given as goal

abbrev pub invariant-loop-start : goal.invariant-loop-start
invariant-loop-start g l = record {
  gathered : (past : g.row.Z.Denot) → GatheredTo past l.place l.m l.fn.list l.list l.start;
  turns : (t : ℕ) × (l.start ≡ t * l.half);
}

abbrev pub decreases-loop-start : goal.decreases-loop-start
decreases-loop-start g l = length l.initial.list - l.start
