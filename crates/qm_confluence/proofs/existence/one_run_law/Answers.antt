use Rattle.qm_confluence.proofs.Endings.IdealRuns as ideal_runs
use Rattle.qm_confluence.proofs.existence.one_run_law.Goals as goal

pub returns : goal.returns
returns c = ideal_runs.one_run_law
