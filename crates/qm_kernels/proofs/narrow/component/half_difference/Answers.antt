use Rattle.std.proofs.Common.{arith}
use Rattle.std.proofs.lemmas.Int.{ints}
use Rattle.qm_kernels.proofs.narrow.component.half_difference.Goals as goal

pub returns : goal.returns
returns c = omega (arith, ints, c.requires.even.1)
