use Rattle.std.proofs.Common.{arith}
use Rattle.qm_expand.proofs.operands.take_operand.Goals as goal

pub keep-requires : goal.keep-requires
keep-requires c = let low = c.in_ok-number.ensures.below in let held = c.limit.ensures.held in omega (arith, low, held)
