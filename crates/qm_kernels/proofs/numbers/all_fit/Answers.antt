use Rattle.std.proofs.Common.{◌<◌, ◌∙◌, length, below_more, sym, arith}
use Rattle.std.proofs.lemmas.Bool.{false≢true}
use Rattle.qm_zomega.specs.Numbers.{zero_number}
use Rattle.qm_zomega.proofs.SeenLaws.{seen-here}
use Rattle.qm_kernels.proofs.WritingLaws.{held_same}
use Rattle.qm_kernels.proofs.numbers.all_fit.Goals as goal

pub returns-then-not-fits : goal.returns-then-not-fits
returns-then-not-fits g c =
    let i = c.loop-i.i in
    let below : i < length c.args.high.now = omega (arith, c.loop-i-test.true, c.requires) in
    let p = seen-here g.Z.Numerator.meaning zero_number c.args.low.now i c.index-low-i.result c.loop-i-test.true c.index-low-i.is in
    let q = seen-here g.Z.Numerator.meaning zero_number c.args.high.now i c.index-high-i.result below c.index-high-i.is in (
      (λ never. absurd (false≢true never)),
      (λ all. sym c.if-not-fits.true ∙ c.fits.ensures.1 (held_same g.Z.Numerator.holds _ _ _ _ (sym p) (sym q) (all i c.loop-i-test.true))),
    )

pub loop-i-preserved : goal.loop-i-preserved
loop-i-preserved g c =
    let i = c.loop-i.i in
    let below : i < length c.args.high.now = omega (arith, c.loop-i-test.true, c.requires) in
    let p = seen-here g.Z.Numerator.meaning zero_number c.args.low.now i c.index-low-i.result c.loop-i-test.true c.index-low-i.is in
    let q = seen-here g.Z.Numerator.meaning zero_number c.args.high.now i c.index-high-i.result below c.index-high-i.is in
    below_more _ _ c.loop-i.invariant (held_same g.Z.Numerator.holds _ _ _ _ p q (c.fits.ensures.0 c.if-not-fits.false))
