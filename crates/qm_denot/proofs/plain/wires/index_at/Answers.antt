use Rattle.std.proofs.Common.{◌≤◌, ◌^◌, ◌+◌, take, length, arith, sym, subst}
use Rattle.std.proofs.Math.Pow.{pow_mono}
use Rattle.qm_denot.specs.WireLists.{wires_of}
use Rattle.qm_denot.proofs.PlaceLaws.{index_below}
use Rattle.qm_denot.proofs.LiveWires.{IndexSoFar, index_more, index_none}
use Rattle.qm_denot.proofs.plain.wires.index_at.Goals as goal

pub loop-w-init : goal.loop-w-init
loop-w-init c = index_none c.args.live.now

pub with_bit-k-requires-clause-small : goal.with_bit-k-requires-clause-small
with_bit-k-requires-clause-small c =
    let p : 2 ^ length c.args.live.now ≤ 2 ^ 22 = pow_mono c.requires.few in
    omega (arith, index_below c.args.live.now (wires_of (take c.loop-w.w-index c.args.ones.now)), c.loop-w.invariant.value)

pub returns-clause-below : goal.returns-clause-below
returns-clause-below c = omega (arith, index_below c.args.live.now (wires_of (take c.loop-w.w-index c.args.ones.now)), c.loop-w.invariant.value)

pub loop-w-preserved : goal.loop-w-preserved
loop-w-preserved c =
    subst (IndexSoFar c.args.live.now (wires_of (take (c.loop-w.w-index + 1) c.args.ones.now))) (sym c.with_bit-k.ensures)
    (index_more c.args.live.now c.args.ones.now c.loop-w.w-index c.loop-w.k c.place_of.result _ c.requires.distinct c.place_of.ensures.first c.loop-w-test.true c.loop-w.invariant)
