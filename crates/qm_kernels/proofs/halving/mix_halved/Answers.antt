use Rattle.std.proofs.Common.{◌<◌, length, ap₂, sym, subst, arith, ◌∙◌}
use Rattle.qm_zomega.specs.Numbers.{◌⊕◌, ◌⊖◌, IsDivisible}
use Rattle.qm_kernels.specs.Halved.{half_is}
use Rattle.qm_kernels.proofs.WritingLaws.{held_same, written_none, unwritten, written_more, all_written}
use Rattle.qm_kernels.proofs.halving.mix_halved.Goals as goal

pub plus-sum-requires : goal.plus-sum-requires
plus-sum-requires g c =
    let i = c.loop-i.i in
    let p = unwritten _ _ _ _ _ i c.loop-i.invariant.sums c.index-low-i.result c.loop-i-test.true c.index-low-i.is in
    let q = unwritten _ _ _ _ _ i c.loop-i.invariant.differences c.index-high-i.result (omega (arith, c.loop-i-test.true, c.requires.same)) c.index-high-i.is in
    (held_same g.Z.Numerator.holds _ _ _ _ p q (c.requires.fits i c.loop-i-test.true)).0

pub minus-difference-requires : goal.minus-difference-requires
minus-difference-requires g c =
    let i = c.loop-i.i in
    let p = unwritten _ _ _ _ _ i c.loop-i.invariant.sums c.index-low-i.result c.loop-i-test.true c.index-low-i.is in
    let q = unwritten _ _ _ _ _ i c.loop-i.invariant.differences c.index-high-i.result (omega (arith, c.loop-i-test.true, c.requires.same)) c.index-high-i.is in
    (held_same g.Z.Numerator.holds _ _ _ _ p q (c.requires.fits i c.loop-i-test.true)).1

pub halved-requires : goal.halved-requires
halved-requires g c =
    let i = c.loop-i.i in
    let p = unwritten _ _ _ _ _ i c.loop-i.invariant.sums c.index-low-i.result c.loop-i-test.true c.index-low-i.is in
    let q = unwritten _ _ _ _ _ i c.loop-i.invariant.differences c.index-high-i.result (omega (arith, c.loop-i-test.true, c.requires.same)) c.index-high-i.is in
    subst IsDivisible (sym c.plus-sum.ensures) (held_same IsDivisible _ _ _ _ p q (c.requires.divisible i c.loop-i-test.true)).0

pub halved-requires-in-loop-i : goal.halved-requires-in-loop-i
halved-requires-in-loop-i g c =
    let i = c.loop-i.i in
    let p = unwritten _ _ _ _ _ i c.loop-i.invariant.sums c.index-low-i.result c.loop-i-test.true c.index-low-i.is in
    let q = unwritten _ _ _ _ _ i c.loop-i.invariant.differences c.index-high-i.result (omega (arith, c.loop-i-test.true, c.requires.same)) c.index-high-i.is in
    subst IsDivisible (sym c.minus-difference.ensures) (held_same IsDivisible _ _ _ _ p q (c.requires.divisible i c.loop-i-test.true)).1

pub loop-i-init : goal.loop-i-init
loop-i-init g c = record { sums = written_none _ _ _ _; differences = written_none _ _ _ _ }

pub loop-i-preserved : goal.loop-i-preserved
loop-i-preserved g c =
    let i = c.loop-i.i in
    let below : i < length c.args.high.now = omega (arith, c.loop-i-test.true, c.requires.same) in
    let p = unwritten _ _ _ _ _ i c.loop-i.invariant.sums c.index-low-i.result c.loop-i-test.true c.index-low-i.is in
    let q = unwritten _ _ _ _ _ i c.loop-i.invariant.differences c.index-high-i.result below c.index-high-i.is in
    record {
      sums = written_more _ _ _ _ _ i c.loop-i.invariant.sums c.halved.result c.loop-i-test.true
          (half_is _ _ (c.halved.ensures ∙ c.plus-sum.ensures ∙ ap₂ (λ y z. y ⊕ z) p q));
      differences = written_more _ _ _ _ _ i c.loop-i.invariant.differences c.halved-in-loop-i.result below
          (half_is _ _ (c.halved-in-loop-i.ensures ∙ c.minus-difference.ensures ∙ ap₂ (λ y z. y ⊖ z) p q));
    }

pub returns-clause-sums : goal.returns-clause-sums
returns-clause-sums g c = all_written _ _ _ _ _ _ c.loop-i.invariant.sums (omega arith)

pub returns-clause-differences : goal.returns-clause-differences
returns-clause-differences g c =
    rw c.requires.same (all_written _ _ _ _ _ _ c.loop-i.invariant.differences (omega (arith, c.requires.same)))
