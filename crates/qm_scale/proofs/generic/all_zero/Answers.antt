use Rattle.std.proofs.Common.{◌∙◌, below_more, arith}
use Rattle.qm_zomega.specs.Numbers.{zero_number}
use Rattle.qm_zomega.proofs.SeenLaws.{seen-here}
use Rattle.qm_scale.proofs.ScaleLaws.{all_zeros}
use Rattle.qm_scale.proofs.generic.all_zero.Goals as goal

pub loop-i-preserved : goal.loop-i-preserved
loop-i-preserved g c =
    let here = seen-here g.Z.Numerator.meaning zero_number c.args.list.now c.loop-i.i c.index-list-i.result c.loop-i-test.true c.index-list-i.is in
    below_more _ _ c.loop-i.invariant (here ∙ c.is_nought.ensures.0 c.if-not-is_nought.false)

pub returns : goal.returns
returns g c = λ _. all_zeros g.Z.Numerator.meaning c.args.list.now c.loop-i.i (omega arith) c.loop-i.invariant
