use Rattle.qm_denot.proofs.ProtocolLaws.{equal_reaching}
use Rattle.qm_denot.proofs.NameLists.{not_sym}
use Rattle.qm_proto.proofs.laws.reach_law.Goals as goal

pub returns : goal.returns
returns c = λ circuit q e f t m n qe qf ef tq te tf e_blank f_blank. equal_reaching circuit q e f qe qf ef e_blank f_blank t (not_sym tq) (not_sym tf) m n
