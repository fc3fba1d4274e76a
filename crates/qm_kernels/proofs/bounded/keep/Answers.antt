use Rattle.qm_kernels.proofs.BelowLaws.{made_below, below-keep}
use Rattle.qm_kernels.proofs.MovedLaws.{keep_meant}
use Rattle.qm_kernels.proofs.bounded.keep.Goals as goal

pub returns-clause-done : goal.returns-clause-done
returns-clause-done g c = keep_meant g.Z.Numerator.meaning g.Z.Slim.nought g.met.Z.Slim.nought_is _ _ _ c.zero.ensures c.args.place c.args.m c.keep.ensures.moved

pub returns-clause-below : goal.returns-clause-below
returns-clause-below g c = λ n all. made_below g.Z.Numerator.meaning n _ _ _ (keep_meant g.Z.Numerator.meaning g.Z.Slim.nought g.met.Z.Slim.nought_is _ _ _ c.zero.ensures c.args.place c.args.m c.keep.ensures.moved) (below-keep n _ all c.args.place c.args.m)
