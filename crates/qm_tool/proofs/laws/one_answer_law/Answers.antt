use Rattle.qm_tool.proofs.AnswerLaws.{Due-one}
use Rattle.qm_tool.proofs.laws.one_answer_law.Goals as goal

pub returns : goal.returns
returns c = Due-one
