use Rattle.qm_confluence.proofs.Confluence.SameSteps as steps
use Rattle.qm_confluence.proofs.outcomes.outcomes_law.Goals as goal

pub returns : goal.returns
returns c = steps.outcomes_law
