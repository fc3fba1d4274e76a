use Rattle.std.proofs.Common.{rules}
use Rattle.qm_parse.proofs.goals.verdict_of.Goals as goal

pub returns-in-Ranks : goal.returns-in-Ranks
returns-in-Ranks c = search rules
