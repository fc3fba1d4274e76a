use Rattle.qm_proto.proofs.WorkedTurns as turns
use Rattle.qm_proto.proofs.worked.worked_turns.Goals as goal

pub returns : goal.returns
returns c = turns.worked_turns
