use Rattle.qm_safety.proofs.Safety.Operands as operands
use Rattle.qm_safety.proofs.states.operands_law.Goals as goal

pub returns : goal.returns
returns c = operands.operands_law
