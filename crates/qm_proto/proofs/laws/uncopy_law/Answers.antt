use Rattle.qm_denot.proofs.ProtocolLaws.{equal_uncopying}
use Rattle.qm_proto.proofs.laws.uncopy_law.Goals as goal

pub returns : goal.returns
returns c = λ circuit q f m qf agree. equal_uncopying circuit q f qf agree m
