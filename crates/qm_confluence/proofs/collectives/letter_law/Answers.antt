use Rattle.qm_confluence.proofs.CollectiveLetters as letters
use Rattle.qm_confluence.proofs.collectives.letter_law.Goals as goal

pub returns : goal.returns
returns c = letters.letters
