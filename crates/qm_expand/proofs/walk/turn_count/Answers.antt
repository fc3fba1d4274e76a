use Rattle.std.proofs.Common.{rules}
use Rattle.qm_expand.proofs.walk.turn_count.Goals as goal

pub overflow_cast-result : goal.overflow_cast-result
overflow_cast-result c = search rules
