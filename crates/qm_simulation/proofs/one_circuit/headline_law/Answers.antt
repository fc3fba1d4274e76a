use Rattle.qm_simulation.proofs.Headline as headline
use Rattle.qm_simulation.proofs.one_circuit.headline_law.Goals as goal

pub returns : goal.returns
returns c = headline.headline_law
