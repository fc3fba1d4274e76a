use Rattle.qm_parse.proofs.OneAnswer.{tree-or-fault}
use Rattle.qm_parse.proofs.laws.tree_or_fault.Goals as goal

pub returns : goal.returns
returns c = tree-or-fault
