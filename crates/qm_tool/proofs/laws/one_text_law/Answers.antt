use Rattle.qm_tool.proofs.AnswerLaws.{IsOneText-one}
use Rattle.qm_tool.proofs.laws.one_text_law.Goals as goal

pub returns : goal.returns
returns c = IsOneText-one
