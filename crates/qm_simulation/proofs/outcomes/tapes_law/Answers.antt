use Rattle.qm_simulation.proofs.Tapes as tapes
use Rattle.qm_simulation.proofs.outcomes.tapes_law.Goals as goal

pub returns : goal.returns
returns c = tapes.tapes_law
