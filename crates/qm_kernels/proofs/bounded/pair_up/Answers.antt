use Rattle.qm_kernels.proofs.BelowLaws.{made_below, below-pair}
use Rattle.qm_kernels.proofs.MovedLaws.{pair_meant}
use Rattle.qm_kernels.proofs.bounded.pair_up.Goals as goal

pub returns-clause-done : goal.returns-clause-done
returns-clause-done g c = pair_meant g.Z.Numerator.meaning g.Z.Slim.nought g.met.Z.Slim.nought_is _ _ c.args.n c.requires.size c.pair_up.ensures.size c.pair_up.ensures.kept c.pair_up.ensures.copied c.requires.rest

pub returns-clause-below : goal.returns-clause-below
returns-clause-below g c = λ n all. made_below g.Z.Numerator.meaning n _ _ _ (pair_meant g.Z.Numerator.meaning g.Z.Slim.nought g.met.Z.Slim.nought_is _ _ c.args.n c.requires.size c.pair_up.ensures.size c.pair_up.ensures.kept c.pair_up.ensures.copied c.requires.rest) (below-pair n _ all c.args.n)
