use Rattle.std.proofs.Common.{rules}
use Rattle.qm_expand.proofs.values.limit.Goals as goal

pub returns-in-Root-clause-value : goal.returns-in-Root-clause-value
returns-in-Root-clause-value c = search rules
