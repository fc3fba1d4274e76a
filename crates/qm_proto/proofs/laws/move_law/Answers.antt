use Rattle.qm_denot.proofs.ProtocolLaws.{equal_moving}
use Rattle.qm_proto.proofs.laws.move_law.Goals as goal

pub returns : goal.returns
returns c = λ circuit q e f m n qe qf ef e_blank f_blank. equal_moving circuit q e f qe qf ef e_blank f_blank m n
