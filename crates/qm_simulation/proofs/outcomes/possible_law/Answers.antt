use Rattle.qm_simulation.proofs.Possible as possible
use Rattle.qm_simulation.proofs.outcomes.possible_law.Goals as goal

pub returns : goal.returns
returns c = possible.possible_law
