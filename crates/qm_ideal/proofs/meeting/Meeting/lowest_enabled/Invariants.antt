use Rattle.std.proofs.Common.{◌≡◌, ◌<◌, ℕ, false}
use Rattle.qm_proto.specs.Model.Rows.{instr_at}
use Rattle.qm_ideal.specs.Meetings.{may_go}
use Rattle.qm_ideal.specs.MeetingViews.{stand_in}
use Rattle.qm_ideal.proofs.meeting.Meeting.lowest_enabled.Given as goal

abbrev pub invariant-loop-rank : goal.invariant-loop-rank
invariant-loop-rank l = (k : ℕ) → k < l.rank → may_go (instr_at l.input) (stand_in l.self) k ≡ false
