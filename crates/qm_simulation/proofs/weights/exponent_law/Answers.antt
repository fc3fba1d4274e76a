use Rattle.qm_simulation.proofs.Weighing.Exponents as exponents
use Rattle.qm_simulation.proofs.weights.exponent_law.Goals as goal

pub returns : goal.returns
returns c = exponents.exponent_law
