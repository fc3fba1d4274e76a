use Rattle.std.proofs.Common.{arith}
use Rattle.std.proofs.lemmas.Int.{ints}
use Rattle.qm_zomega.specs.Numbers.{plus}
use Rattle.qm_zomega.proofs.Laws.{same}
use Rattle.qm_zomega.proofs.numerator.ZwNumerator.plus.Goals as goal

pub returns : goal.returns
unfolding plus
returns c = same _ _ (omega (arith, ints, c.fitting_sum.ensures, c.requires.a_fits)) (omega (arith, ints, c.fitting_sum-2.ensures, c.requires.b_fits)) (omega (arith, ints, c.fitting_sum-3.ensures, c.requires.c_fits)) (omega (arith, ints, c.fitting_sum-4.ensures, c.requires.d_fits))
