use Rattle.qm_parse.proofs.SomeAnswer.{some-answer}
use Rattle.qm_parse.proofs.laws.some_tree_or_fault.Goals as goal

pub returns : goal.returns
returns c = some-answer
