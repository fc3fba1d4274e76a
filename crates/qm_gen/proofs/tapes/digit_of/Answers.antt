use Rattle.std.proofs.Common.{rules}
use Rattle.qm_gen.proofs.tapes.digit_of.Goals as goal

pub returns-then-word-eq1 : goal.returns-then-word-eq1
returns-then-word-eq1 c = search rules
