use Rattle.std.proofs.Common.{arith}
use Rattle.std.proofs.lemmas.Int.{ints, to_z-of_z}
use Rattle.qm_zomega.specs.Numbers.{minus}
use Rattle.qm_zomega.proofs.Laws.{same}
use Rattle.qm_kernels.proofs.narrow.numerator.NarrowNumerator.minus.Goals as goal

pub returns : goal.returns
unfolding minus
returns c = same _ _ (search (arith, ints, to_z-of_z, c.fitting_difference.ensures)) (search (arith, ints, to_z-of_z, c.fitting_difference-2.ensures)) (search (arith, ints, to_z-of_z, c.fitting_difference-3.ensures)) (search (arith, ints, to_z-of_z, c.fitting_difference-4.ensures))
