use Rattle.std.proofs.Common.{arith}
use Rattle.std.proofs.lemmas.Int.{ints}
use Rattle.qm_zomega.specs.Zw.{value_of}
use Rattle.qm_sizes.proofs.Heavy.{light_below, still_below, size_few}
use Rattle.qm_sizes.specs.Parts.{surd_of}
use Rattle.qm_sizes.proofs.sums.light_size.Goals as goal

pub returns-then-weight_bits-gt-MOST_BITS-clause-light : goal.returns-then-weight_bits-gt-MOST_BITS-clause-light
returns-then-weight_bits-gt-MOST_BITS-clause-light c = (
  (λ e. absurd (let n : ⊥ = cc in n)),
  (λ h. absurd (let low = c.weight_bits.ensures.least 19 (light_below (value_of c.args.z) h) in let high = c.if-weight_bits-gt-MOST_BITS.true in omega (arith, low, high))),
)

pub size-size-requires : goal.size-size-requires
size-size-requires c =
    still_below c.weight_bits.result (value_of c.args.z) c.weight_bits.ensures.below (let low = c.if-weight_bits-gt-MOST_BITS.false in omega (arith, low))

pub returns-clause-few : goal.returns-clause-few
returns-clause-few c =
    size_few (value_of c.args.z) (surd_of c.size-size.result) c.size-size.ensures.value (let low = c.if-size-gt-MOST_WHOLE.false in omega (arith, ints, low))
