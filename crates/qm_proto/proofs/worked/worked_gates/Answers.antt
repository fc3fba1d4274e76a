use Rattle.qm_proto.proofs.WorkedGates as gates
use Rattle.qm_proto.proofs.worked.worked_gates.Goals as goal

pub returns : goal.returns
returns c = gates.worked_gates
