use Rattle.qm_tree.proofs.TreeLaws.{untreecast}
use Rattle.qm_tree.proofs.laws.untreecast_law.Goals as goal

pub returns : goal.returns
returns c = untreecast
