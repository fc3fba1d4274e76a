use Rattle.std.proofs.Common.{arith}
use Rattle.std.proofs.lemmas.Int.{ints}
use Rattle.qm_zomega.proofs.component.half_sum.Goals as goal

pub overflow_add-result-2 : goal.overflow_add-result-2
overflow_add-result-2 c = omega (arith, ints, c.requires.even.1)

pub returns : goal.returns
returns c = omega (arith, ints, c.requires.even.1)
