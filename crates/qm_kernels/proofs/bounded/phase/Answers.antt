use Rattle.qm_kernels.proofs.BelowLaws.{made_below, below-phase}
use Rattle.qm_kernels.proofs.bounded.phase.Goals as goal

pub returns-clause-below : goal.returns-clause-below
returns-clause-below g c = λ n all. made_below g.Z.Numerator.meaning n _ _ _ c.phase.ensures (below-phase n _ all c.args.k c.args.place)
