use Rattle.qm_cost.proofs.Existing.{one_report}
use Rattle.qm_cost.proofs.laws.one_report_law.Goals as goal

pub returns : goal.returns
returns c = one_report
