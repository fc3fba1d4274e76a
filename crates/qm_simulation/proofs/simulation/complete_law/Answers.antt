-- Where nothing is owed any more, both circuits are equal up to the outcomes used
use Rattle.qm_simulation.proofs.simulation.complete_law.Goals as goal
use Rattle.qm_simulation.proofs.Following.Complete.{complete_law}

pub returns : goal.returns
returns c = complete_law
