use Rattle.std.proofs.Common.{sym, subst, below_more, arith}
use Rattle.qm_zomega.specs.Numbers.{zero_number}
use Rattle.qm_zomega.specs.Range.{IsBelow}
use Rattle.qm_zomega.proofs.SeenLaws.{seen-here}
use Rattle.qm_kernels.proofs.BelowLaws.{everywhere_below}
use Rattle.qm_kernels.proofs.bounded.are_light.Goals as goal

pub loop-i-preserved : goal.loop-i-preserved
loop-i-preserved g c =
    let here = seen-here g.Z.Numerator.meaning zero_number c.args.list.now c.loop-i.i c.index-list-i.result c.loop-i-test.true c.index-list-i.is in
    below_more _ _ c.loop-i.invariant (subst (IsBelow g.Z.Slim.LIGHT_BITS) (sym here) (c.is_light.ensures c.if-not-is_light.false))

pub returns : goal.returns
returns g c = λ _. everywhere_below g.Z.Numerator.meaning g.Z.Slim.LIGHT_BITS c.args.list.now (λ i h. c.loop-i.invariant i (omega (arith, h)))
