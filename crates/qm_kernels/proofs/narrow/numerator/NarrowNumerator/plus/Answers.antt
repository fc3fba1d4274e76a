use Rattle.std.proofs.Common.{arith}
use Rattle.std.proofs.lemmas.Int.{ints}
use Rattle.qm_zomega.specs.Numbers.{plus}
use Rattle.qm_zomega.proofs.Laws.{same}
use Rattle.qm_kernels.proofs.narrow.numerator.NarrowNumerator.plus.Goals as goal

pub returns : goal.returns
unfolding plus
returns c = same _ _ (omega (arith, ints, c.fitting_sum.ensures, c.requires.a_below)) (omega (arith, ints, c.fitting_sum-2.ensures, c.requires.b_below)) (omega (arith, ints, c.fitting_sum-3.ensures, c.requires.c_below)) (omega (arith, ints, c.fitting_sum-4.ensures, c.requires.d_below))
