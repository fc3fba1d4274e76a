use Rattle.std.proofs.Common.{rules}
use Rattle.qm_cost.proofs.longest.best.Goals as goal

pub returns : goal.returns
returns = search rules
