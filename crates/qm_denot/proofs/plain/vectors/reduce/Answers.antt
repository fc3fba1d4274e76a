use Rattle.std.proofs.Common.{arith}
use Rattle.qm_denot.proofs.ReducedLaws.{root2_times-once_more, Reduces-zeros}
use Rattle.qm_denot.proofs.plain.vectors.reduce.Goals as goal

pub returns-then-all_zero : goal.returns-then-all_zero
returns-then-all_zero c = Reduces-zeros c.args.numerators.now c.args.exponent (c.all_zero.ensures c.if-all_zero.true)

pub loop-exponent-preserved : goal.loop-exponent-preserved
loop-exponent-preserved c = record {
  lower = omega arith;
  same = λ i. root2_times-once_more _ c.loop-exponent.exponent _ _ _ c.loop-exponent-test.true c.loop-exponent.invariant.lower (c.halve_all.ensures.halved i) (c.loop-exponent.invariant.same i);
}
