use Rattle.qm_proto.proofs.WorkedGates as bits
use Rattle.qm_proto.proofs.worked.worked_bits.Goals as goal

pub returns : goal.returns
returns c = bits.worked_bits
