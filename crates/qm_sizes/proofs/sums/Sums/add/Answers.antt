use Rattle.std.proofs.Common.{rules}
use Rattle.qm_sizes.proofs.sums.Sums.add.Goals as goal

pub returns-clause-marked : goal.returns-clause-marked
returns-clause-marked c = search rules
