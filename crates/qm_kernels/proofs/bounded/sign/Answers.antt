use Rattle.qm_kernels.proofs.BelowLaws.{made_below, below-sign}
use Rattle.qm_kernels.proofs.bounded.sign.Goals as goal

pub returns-clause-below : goal.returns-clause-below
returns-clause-below g c = λ n all. made_below g.Z.Numerator.meaning n _ _ _ c.sign.ensures (below-sign n _ all c.args.one c.args.other)
