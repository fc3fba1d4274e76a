use Rattle.qm_tool.proofs.OneCircuits.{agrees}
use Rattle.qm_tool.proofs.laws.one_circuit_law.Goals as goal

pub returns : goal.returns
returns c = agrees
