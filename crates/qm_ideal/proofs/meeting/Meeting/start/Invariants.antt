use Rattle.std.proofs.Common.{◌≡◌, ◌≤◌, replicate, vec_capacity}
use Rattle.qm_ideal.specs.MeetingViews.{position_at_start}
use Rattle.qm_ideal.proofs.meeting.Meeting.start.Given as goal

abbrev pub invariant-loop : goal.invariant-loop
invariant-loop l = (l.positions.items ≡ replicate l.counter position_at_start) × (l.counter ≤ l.end) × (l.end ≤ vec_capacity l.positions)
