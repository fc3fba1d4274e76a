use Rattle.qm_proto.proofs.WorkedWaits as waits
use Rattle.qm_proto.proofs.worked.worked_refusals.Goals as goal

pub returns : goal.returns
returns c = waits.worked_refusals
