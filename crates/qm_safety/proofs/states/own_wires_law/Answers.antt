use Rattle.qm_safety.proofs.Safety.OwnWires as own_wires
use Rattle.qm_safety.proofs.states.own_wires_law.Goals as goal

pub returns : goal.returns
returns c = own_wires.own_wires_law
