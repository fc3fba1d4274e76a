-- From the invariant along the schedule
use Rattle.qm_simulation.proofs.simulation.follows_law.Goals as goal
use Rattle.qm_simulation.proofs.Following.Owing.{follows_law}

pub returns : goal.returns
returns c = follows_law
