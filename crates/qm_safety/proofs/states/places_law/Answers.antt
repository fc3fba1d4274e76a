use Rattle.qm_safety.proofs.Safety.Blanks as blanks
use Rattle.qm_safety.proofs.states.places_law.Goals as goal

pub returns : goal.returns
returns c = blanks.places_law
