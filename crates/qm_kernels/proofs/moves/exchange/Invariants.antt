use Rattle.std.proofs.Common.{◌≡◌, ℕ, ◌*◌, ◌-◌, ◌^◌, length}
use Rattle.qm_kernels.specs.Done.{ExchangedTo}
use Rattle.qm_kernels.proofs.moves.exchange.Given as goal

abbrev pub invariant-loop-start : goal.invariant-loop-start
invariant-loop-start g l = record {
  one : (past : g.row.Z.Denot) → ExchangedTo past l.place l.fn.one l.fn.other l.one l.start;
  other : (past : g.row.Z.Denot) → ExchangedTo past l.place l.fn.other l.fn.one l.other l.start;
  turns : (m : ℕ) × (l.start ≡ m * (2 * 2 ^ l.place));
}

abbrev pub decreases-loop-start : goal.decreases-loop-start
decreases-loop-start g l = length l.initial.one - l.start
