use Rattle.qm_print.proofs.TurnsLemmas as turns
use Rattle.qm_print.proofs.blocks.turns_law.Goals as goal

pub returns : goal.returns
returns c = turns.turns_law
