use Rattle.qm_tool.proofs.CallLaws.{Concludes-ran, Ran-promises}
use Rattle.qm_tool.proofs.top.tool_plain.Goals as goal

pub returns : goal.returns
returns g c = Ran-promises _ _ _ _ _ _ (Concludes-ran _ _ _ _ _ _ _ _ c.answer_to-answer.ensures.usage c.answer_to-answer.ensures.due c.conclude.ensures)
