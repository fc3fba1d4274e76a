use Rattle.qm_simulation.proofs.WorkedProgress as worked
use Rattle.qm_simulation.proofs.progress.worked_progress.Goals as goal

pub returns : goal.returns
returns c = worked.worked_progress
