use Rattle.qm_simulation.proofs.Weighing.Weights as weights
use Rattle.qm_simulation.proofs.weights.weight_law.Goals as goal

pub returns : goal.returns
returns c = weights.weight_law
