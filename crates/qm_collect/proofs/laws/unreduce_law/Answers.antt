use Rattle.qm_collect.proofs.CircuitLaws as circuit
use Rattle.qm_collect.proofs.laws.unreduce_law.Goals as goal

pub returns : goal.returns
returns c = circuit.unreduce
