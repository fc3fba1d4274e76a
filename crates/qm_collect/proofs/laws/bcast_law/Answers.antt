use Rattle.qm_collect.proofs.CircuitLaws as circuit
use Rattle.qm_collect.proofs.laws.bcast_law.Goals as goal

pub returns : goal.returns
returns c = circuit.bcast
