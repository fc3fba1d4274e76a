use Rattle.qm_cost.proofs.Working.{worked_reports}
use Rattle.qm_cost.proofs.worked.worked_reports.Goals as goal

pub returns : goal.returns
returns c = worked_reports
