use Rattle.qm_kernels.proofs.BelowLaws.{reduced_below}
use Rattle.qm_kernels.proofs.bounded.reduce.Goals as goal

pub returns-clause-below : goal.returns-clause-below
returns-clause-below g c = λ n. reduced_below g.Z.Numerator.meaning n _ _ _ _ c.reduce.ensures
