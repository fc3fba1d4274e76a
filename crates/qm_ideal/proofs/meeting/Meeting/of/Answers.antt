use Rattle.std.proofs.Common.{◌∙◌}
use Rattle.qm_ideal.specs.MeetingViews.{stand_in}
use Rattle.qm_ideal.proofs.MeetingRuns.{way_start, way_next, way_end, left_falls, at_small, stage_small}
use Rattle.qm_ideal.proofs.meeting.Meeting.of.Goals as goal

pub loop-rank-init : goal.loop-rank-init
loop-rank-init c = (way_start c.args.input.now _ c.in_ok-meeting.ensures.start, c.in_ok-meeting.ensures.ranks)

pub step-requires-clause-at : goal.step-requires-clause-at
step-requires-clause-at c = at_small c.args.input.now c.in_ok-meeting.ensures.in_range (stand_in c.loop-rank.meeting) c.in-Some.rank c.loop-rank.invariant.0 c.in-Some.ensures

pub step-requires-clause-stage : goal.step-requires-clause-stage
step-requires-clause-stage c = stage_small c.args.input.now (stand_in c.loop-rank.meeting) c.in-Some.rank c.loop-rank.invariant.0 c.in-Some.ensures

pub loop-rank-smaller : goal.loop-rank-smaller
loop-rank-smaller c =
    left_falls c.args.input.now (stand_in c.loop-rank.meeting) (stand_in c.step.new.self) c.in-Some.rank c.loop-rank.invariant.0 c.in-Some.ensures c.in_ok-step.ensures.did

pub loop-rank-preserved : goal.loop-rank-preserved
loop-rank-preserved c = (
  way_next c.args.input.now (stand_in c.loop-rank.meeting) (stand_in c.step.new.self) c.in-Some.rank c.loop-rank.invariant.0 c.in-Some.ensures c.in_ok-step.ensures.did,
  c.in_ok-step.ensures.ranks ∙ c.loop-rank.invariant.1,
)

pub returns-clause-end : goal.returns-clause-end
returns-clause-end c = way_end c.args.input.now (stand_in c.loop-rank.meeting) c.loop-rank.invariant.0 c.in_default.ensures
