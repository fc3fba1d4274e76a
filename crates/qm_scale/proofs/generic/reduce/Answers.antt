use Rattle.std.proofs.Common.{arith}
use Rattle.qm_scale.proofs.ScaleLaws.{once_more, zeros_over}
use Rattle.qm_scale.proofs.generic.reduce.Goals as goal

pub loop-left-preserved-then-all_zero : goal.loop-left-preserved-then-all_zero
loop-left-preserved-then-all_zero g c = record {
  lower = omega arith;
  same = λ i. zeros_over c.args.exponent.now _ _ _ (c.all_zero.ensures c.if-all_zero.true i) (c.loop-left.invariant.same i);
}

pub loop-left-preserved : goal.loop-left-preserved
loop-left-preserved g c = record {
  lower = omega (arith, c.loop-left.invariant.lower);
  same = λ i. once_more c.args.exponent.now c.loop-left.left _ _ _ (omega arith) c.loop-left.invariant.lower (c.halve_all.ensures.halved i) (c.loop-left.invariant.same i);
}
