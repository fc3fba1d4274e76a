use Rattle.std.proofs.Common.{rules}
use Rattle.qm_parse.proofs.goals.number_verdict.Goals as goal

pub returns-in-Number : goal.returns-in-Number
returns-in-Number c = search rules
