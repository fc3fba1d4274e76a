use Rattle.qm_proto.proofs.Messages as messages
use Rattle.qm_proto.proofs.worked.worked_messages.Goals as goal

pub returns : goal.returns
returns c = messages.worked_messages
