use Rattle.std.proofs.Common.{◌≡◌, ◌<◌, ℕ, false, is_some}
use Rattle.qm_proto.specs.Model.Rows.{instr_at}
use Rattle.qm_ideal.specs.Meetings.{shape_next}
use Rattle.qm_ideal.specs.MeetingViews.{stand_in}
use Rattle.qm_ideal.proofs.meeting.Meeting.all_ended.Given as goal

abbrev pub invariant-loop-rank : goal.invariant-loop-rank
invariant-loop-rank l = (k : ℕ) → k < l.rank → is_some (shape_next (instr_at l.input) (stand_in l.self) k) ≡ false
