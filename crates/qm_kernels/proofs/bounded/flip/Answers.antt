use Rattle.qm_kernels.proofs.BelowLaws.{made_below, below-flip}
use Rattle.qm_kernels.proofs.MovedLaws.{flip_meant}
use Rattle.qm_kernels.proofs.bounded.flip.Goals as goal

pub returns-clause-done : goal.returns-clause-done
returns-clause-done g c = flip_meant g.Z.Numerator.meaning g.Z.Slim.nought g.met.Z.Slim.nought_is _ _ c.args.place c.flip.ensures.moved

pub returns-clause-below : goal.returns-clause-below
returns-clause-below g c = λ n all. made_below g.Z.Numerator.meaning n _ _ _ (flip_meant g.Z.Numerator.meaning g.Z.Slim.nought g.met.Z.Slim.nought_is _ _ c.args.place c.flip.ensures.moved) (below-flip n _ all c.args.place)
