use Rattle.std.proofs.Common.{length, ◌-◌, ◌≤◌, take}
use Rattle.qm_io.specs.Ends.{Took}
use Rattle.qm_io.proofs.put.put_bytes.Given as goal

abbrev pub invariant-loop-at : goal.invariant-loop-at
invariant-loop-at g l = record { within : l.at ≤ length l.bytes; took : Took (g.O.Sink.seen l.fn.sink) (g.O.Sink.seen l.sink) (take l.at l.bytes) }

abbrev pub decreases-loop-at : goal.decreases-loop-at
decreases-loop-at g l = length l.bytes - l.at
