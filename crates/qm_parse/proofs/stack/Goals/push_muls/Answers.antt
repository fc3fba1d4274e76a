use Rattle.std.proofs.Common.{rules}
use Rattle.qm_parse.proofs.stack.Goals.push_muls.Goals as goal

pub returns-in-Some : goal.returns-in-Some
returns-in-Some c = search rules
