use Rattle.std.proofs.Common.{rules}
use Rattle.qm_check.proofs.checking.total_capacity.Goals as goal

pub loop-rank-init : goal.loop-rank-init
loop-rank-init c = search rules
