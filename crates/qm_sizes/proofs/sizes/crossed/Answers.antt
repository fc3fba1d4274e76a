use Rattle.std.proofs.Common.{rules}
use Rattle.qm_sizes.proofs.sizes.crossed.Goals as goal

pub returns-clause-value : goal.returns-clause-value
returns-clause-value c = search rules
