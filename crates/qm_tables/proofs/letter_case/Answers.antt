use Rattle.std.proofs.Common.{rules}
use Rattle.qm_tables.proofs.letter_case.Goals as goal

pub returns-in-Cx : goal.returns-in-Cx
returns-in-Cx c = search rules
