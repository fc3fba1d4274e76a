use Rattle.qm_kernels.proofs.BelowLaws.{made_below, below-cross}
use Rattle.qm_kernels.proofs.MovedLaws.{cross_meant}
use Rattle.qm_kernels.proofs.bounded.cross.Goals as goal

pub returns-clause-done : goal.returns-clause-done
returns-clause-done g c = cross_meant g.Z.Numerator.meaning g.Z.Slim.nought g.met.Z.Slim.nought_is _ _ c.args.control c.args.target c.cross.ensures.moved

pub returns-clause-below : goal.returns-clause-below
returns-clause-below g c = λ n all. made_below g.Z.Numerator.meaning n _ _ _ (cross_meant g.Z.Numerator.meaning g.Z.Slim.nought g.met.Z.Slim.nought_is _ _ c.args.control c.args.target c.cross.ensures.moved) (below-cross n _ all c.args.control c.args.target)
