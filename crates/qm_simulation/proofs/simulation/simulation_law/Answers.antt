-- From the letters begun and due, event by event along the schedule
use Rattle.qm_simulation.proofs.simulation.simulation_law.Goals as goal
use Rattle.qm_simulation.proofs.Following.Simulating.{simulation_law}

pub returns : goal.returns
returns c = simulation_law
