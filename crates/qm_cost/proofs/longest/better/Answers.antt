use Rattle.std.proofs.Common.{rules}
use Rattle.qm_cost.proofs.longest.better.Goals as goal

pub returns-then-takes : goal.returns-then-takes
returns-then-takes c = search rules
