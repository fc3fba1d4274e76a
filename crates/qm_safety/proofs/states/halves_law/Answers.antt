use Rattle.qm_safety.proofs.Safety.Halves as halves
use Rattle.qm_safety.proofs.states.halves_law.Goals as goal

pub returns : goal.returns
returns c = halves.halves_law
