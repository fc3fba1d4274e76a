use Rattle.qm_confluence.proofs.Confluence.GoodLetters as letters
use Rattle.qm_confluence.proofs.letters.good_letters_law.Goals as goal

pub returns : goal.returns
returns c = letters.good_letters
