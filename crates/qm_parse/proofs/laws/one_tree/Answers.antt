use Rattle.qm_parse.proofs.Unique.{program-same}
use Rattle.qm_parse.proofs.laws.one_tree.Goals as goal

pub returns : goal.returns
returns c = program-same
