use Rattle.qm_tree.proofs.TreeLaws.{treecast}
use Rattle.qm_tree.proofs.laws.treecast_law.Goals as goal

pub returns : goal.returns
returns c = treecast
