use Rattle.qm_denot.proofs.ProtocolLaws.{equal_copying}
use Rattle.qm_proto.proofs.laws.copy_law.Goals as goal

pub returns : goal.returns
returns c = λ circuit q e f m qe qf ef e_blank f_blank. equal_copying circuit q e f qe qf ef e_blank f_blank m
