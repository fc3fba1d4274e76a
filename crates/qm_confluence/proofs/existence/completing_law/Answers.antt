use Rattle.qm_confluence.proofs.Endings.Completing as completing
use Rattle.qm_confluence.proofs.existence.completing_law.Goals as goal

pub returns : goal.returns
returns c = completing.completing_law
