use Rattle.qm_confluence.proofs.Endings.FirstRuns as first_runs
use Rattle.qm_confluence.proofs.existence.first_law.Goals as goal

pub returns : goal.returns
returns c = first_runs.first_law
