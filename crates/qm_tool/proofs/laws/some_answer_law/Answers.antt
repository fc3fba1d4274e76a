use Rattle.qm_tool.proofs.SomeAnswers.{some_answer}
use Rattle.qm_tool.proofs.laws.some_answer_law.Goals as goal

pub returns : goal.returns
returns c = some_answer
