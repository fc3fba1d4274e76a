use Rattle.qm_proto.proofs.WorkedRuns as runs
use Rattle.qm_proto.proofs.worked.worked_ideal.Goals as goal

pub returns : goal.returns
returns c = runs.worked_ideal
