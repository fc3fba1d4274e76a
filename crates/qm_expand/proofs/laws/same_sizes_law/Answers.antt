use Rattle.qm_expand.proofs.SameSizes.{same-sizes}
use Rattle.qm_expand.proofs.laws.same_sizes_law.Goals as goal

pub returns : goal.returns
returns c = same-sizes
