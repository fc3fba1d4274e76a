use Rattle.std.proofs.Common.{◌<◌, length, ap₂, arith, ◌∙◌}
use Rattle.qm_zomega.specs.Numbers.{◌⊕◌, ◌⊖◌}
use Rattle.qm_kernels.proofs.WritingLaws.{held_same, written_none, unwritten, written_more, all_written}
use Rattle.qm_kernels.proofs.numbers.mix.Goals as goal

pub plus-requires : goal.plus-requires
plus-requires g c =
    let i = c.loop-i.i in
    let p = unwritten _ _ _ _ _ i c.loop-i.invariant.sums c.index-low-i.result c.loop-i-test.true c.index-low-i.is in
    let q = unwritten _ _ _ _ _ i c.loop-i.invariant.differences c.index-high-i.result (omega (arith, c.loop-i-test.true, c.requires.same)) c.index-high-i.is in
    (held_same g.Z.Numerator.holds _ _ _ _ p q (c.requires.fits i c.loop-i-test.true)).0

pub minus-requires : goal.minus-requires
minus-requires g c =
    let i = c.loop-i.i in
    let p = unwritten _ _ _ _ _ i c.loop-i.invariant.sums c.index-low-i.result c.loop-i-test.true c.index-low-i.is in
    let q = unwritten _ _ _ _ _ i c.loop-i.invariant.differences c.index-high-i.result (omega (arith, c.loop-i-test.true, c.requires.same)) c.index-high-i.is in
    (held_same g.Z.Numerator.holds _ _ _ _ p q (c.requires.fits i c.loop-i-test.true)).1

pub loop-i-init : goal.loop-i-init
loop-i-init g c = record { sums = written_none _ _ _ _; differences = written_none _ _ _ _ }

pub loop-i-preserved : goal.loop-i-preserved
loop-i-preserved g c =
    let i = c.loop-i.i in
    let below : i < length c.args.high.now = omega (arith, c.loop-i-test.true, c.requires.same) in
    let p = unwritten _ _ _ _ _ i c.loop-i.invariant.sums c.index-low-i.result c.loop-i-test.true c.index-low-i.is in
    let q = unwritten _ _ _ _ _ i c.loop-i.invariant.differences c.index-high-i.result below c.index-high-i.is in
    record {
      sums = written_more _ _ _ _ _ i c.loop-i.invariant.sums c.plus.result c.loop-i-test.true (c.plus.ensures ∙ ap₂ (λ y z. y ⊕ z) p q);
      differences = written_more _ _ _ _ _ i c.loop-i.invariant.differences c.minus.result below (c.minus.ensures ∙ ap₂ (λ y z. y ⊖ z) p q);
    }

pub returns-clause-sums : goal.returns-clause-sums
returns-clause-sums g c = all_written _ _ _ _ _ _ c.loop-i.invariant.sums (omega arith)

pub returns-clause-differences : goal.returns-clause-differences
returns-clause-differences g c =
    rw c.requires.same (all_written _ _ _ _ _ _ c.loop-i.invariant.differences (omega (arith, c.requires.same)))
