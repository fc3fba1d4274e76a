use Rattle.qm_cost.proofs.Existing.{some_report}
use Rattle.qm_cost.proofs.laws.some_report_law.Goals as goal

pub returns : goal.returns
returns c = some_report
