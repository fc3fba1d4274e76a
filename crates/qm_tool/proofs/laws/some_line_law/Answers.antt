use Rattle.qm_tool.proofs.SomeLines.{some_line_due}
use Rattle.qm_tool.proofs.laws.some_line_law.Goals as goal

pub returns : goal.returns
returns c = some_line_due
