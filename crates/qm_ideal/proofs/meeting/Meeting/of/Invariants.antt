use Rattle.std.proofs.Common.{◌≡◌, length}
use Rattle.qm_ideal.specs.MeetingRuns.{IsOnMeetingsWay, stand_left}
use Rattle.qm_ideal.specs.MeetingViews.{stand_in}
use Rattle.qm_ideal.proofs.meeting.Meeting.of.Given as goal

abbrev pub invariant-loop-rank : goal.invariant-loop-rank
invariant-loop-rank l = IsOnMeetingsWay l.input (stand_in l.meeting) × (length l.meeting.positions.items ≡ length l.input.ranks)

abbrev pub decreases-loop-rank : goal.decreases-loop-rank
decreases-loop-rank l = stand_left l.input (stand_in l.meeting)
