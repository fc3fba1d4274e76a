use Rattle.qm_tree.proofs.Places.{between}
use Rattle.qm_tree.proofs.laws.depth_law.Goals as goal

pub returns : goal.returns
returns c = between
