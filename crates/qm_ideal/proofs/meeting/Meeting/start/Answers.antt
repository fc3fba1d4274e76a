use Rattle.qm_ideal.proofs.ShapeLemmas.{start_stand}
use Rattle.qm_ideal.proofs.meeting.Meeting.start.Goals as goal

pub returns-clause-start : goal.returns-clause-start
returns-clause-start c = start_stand c.loop.positions.items _ _ c.loop.invariant.0 c.start.ensures
