use Rattle.qm_tree_steps.proofs.StepLetters.{letters}
use Rattle.qm_tree_steps.proofs.tree_letter_law.Goals as goal

pub returns : goal.returns
returns c = letters
