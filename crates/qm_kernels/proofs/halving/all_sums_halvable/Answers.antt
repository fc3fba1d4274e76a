use Rattle.std.proofs.Common.{◌<◌, ◌∙◌, length, below_more, refl, sym, ap₂, subst, arith}
use Rattle.std.proofs.lemmas.Bool.{false≢true}
use Rattle.qm_zomega.specs.Numbers.{zero_number, IsDivisible, ◌⊕◌}
use Rattle.qm_zomega.proofs.SeenLaws.{seen-here}
use Rattle.qm_kernels.proofs.WritingLaws.{held_same}
use Rattle.qm_kernels.proofs.HalvingLaws.{difference_too}
use Rattle.qm_kernels.proofs.halving.all_sums_halvable.Goals as goal

pub plus-requires : goal.plus-requires
plus-requires g c =
    let i = c.loop-i.i in
    let below : i < length c.args.high.now = omega (arith, c.loop-i-test.true, c.requires.same) in
    let p = seen-here g.Z.Numerator.meaning zero_number c.args.low.now i c.index-low-i.result c.loop-i-test.true c.index-low-i.is in
    let q = seen-here g.Z.Numerator.meaning zero_number c.args.high.now i c.index-high-i.result below c.index-high-i.is in
    (held_same g.Z.Numerator.holds _ _ _ _ (sym p) (sym q) (c.requires.fits i c.loop-i-test.true)).0

pub returns-then-not-is_halvable : goal.returns-then-not-is_halvable
returns-then-not-is_halvable g c =
    let i = c.loop-i.i in
    let below : i < length c.args.high.now = omega (arith, c.loop-i-test.true, c.requires.same) in
    let p = seen-here g.Z.Numerator.meaning zero_number c.args.low.now i c.index-low-i.result c.loop-i-test.true c.index-low-i.is in
    let q = seen-here g.Z.Numerator.meaning zero_number c.args.high.now i c.index-high-i.result below c.index-high-i.is in (
      (λ never. absurd (false≢true never)),
      (λ all. sym c.if-not-is_halvable.true ∙ c.is_halvable.ensures.1 (subst IsDivisible (sym (c.plus.ensures ∙ ap₂ (λ y z. y ⊕ z) (sym p) (sym q))) (all i c.loop-i-test.true).0)),
    )

pub loop-i-preserved : goal.loop-i-preserved
loop-i-preserved g c =
    let i = c.loop-i.i in
    let below : i < length c.args.high.now = omega (arith, c.loop-i-test.true, c.requires.same) in
    let p = seen-here g.Z.Numerator.meaning zero_number c.args.low.now i c.index-low-i.result c.loop-i-test.true c.index-low-i.is in
    let q = seen-here g.Z.Numerator.meaning zero_number c.args.high.now i c.index-high-i.result below c.index-high-i.is in
    let here = subst IsDivisible (c.plus.ensures ∙ ap₂ (λ y z. y ⊕ z) (sym p) (sym q)) (c.is_halvable.ensures.0 c.if-not-is_halvable.false) in
    below_more _ _ c.loop-i.invariant (here, difference_too _ _ here)

pub returns : goal.returns
returns g c = ((λ _ i h. c.loop-i.invariant i (omega (arith, h))), (λ _. refl))
