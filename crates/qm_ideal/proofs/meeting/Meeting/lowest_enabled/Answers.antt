use Rattle.std.proofs.Common.{◌≡◌, ℕ, false}
use borrow.Author.Count.{below_more}
use Rattle.qm_proto.specs.Model.Rows.{instr_at}
use Rattle.qm_ideal.specs.Meetings.{may_go}
use Rattle.qm_ideal.specs.MeetingViews.{stand_in}
use Rattle.qm_ideal.proofs.meeting.Meeting.lowest_enabled.Goals as goal

pub loop-rank-preserved : goal.loop-rank-preserved
loop-rank-preserved c =
    let P : ℕ → Type 0 = λ k. may_go (instr_at c.args.input.now) (stand_in c.args.self.now) k ≡ false in
    below_more P c.loop-rank.rank c.loop-rank.invariant (cc)
