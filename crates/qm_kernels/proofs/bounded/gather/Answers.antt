use Rattle.qm_kernels.proofs.MovedLaws.{take_meant}
use Rattle.qm_kernels.proofs.bounded.gather.Goals as goal

pub returns-clause-taken : goal.returns-clause-taken
returns-clause-taken g c = take_meant g.Z.Numerator.meaning g.Z.Slim.nought g.met.Z.Slim.nought_is _ _ c.args.place c.args.m _ c.gather.ensures.gathered
