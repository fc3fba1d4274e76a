use Rattle.std.proofs.Common.{◌∙◌, refl, sym, subst, below_more, arith}
use Rattle.std.proofs.lemmas.Bool.{false≢true}
use Rattle.qm_zomega.specs.Numbers.{zero_number, IsDivisible}
use Rattle.qm_zomega.proofs.SeenLaws.{seen-here}
use Rattle.qm_scale.proofs.ScaleLaws.{all_divisible}
use Rattle.qm_scale.proofs.generic.all_halvable.Goals as goal

pub returns-then-not-is_halvable : goal.returns-then-not-is_halvable
returns-then-not-is_halvable g c =
    let here = seen-here g.Z.Numerator.meaning zero_number c.args.list.now c.loop-i.i c.index-list-i.result c.loop-i-test.true c.index-list-i.is in
    ((λ never. absurd (false≢true never)), (λ all. sym c.if-not-is_halvable.true ∙ c.is_halvable.ensures.1 (subst IsDivisible here (all c.loop-i.i))))

pub loop-i-preserved : goal.loop-i-preserved
loop-i-preserved g c =
    let here = seen-here g.Z.Numerator.meaning zero_number c.args.list.now c.loop-i.i c.index-list-i.result c.loop-i-test.true c.index-list-i.is in
    below_more _ _ c.loop-i.invariant (subst IsDivisible (sym here) (c.is_halvable.ensures.0 c.if-not-is_halvable.false))

pub returns : goal.returns
returns g c = ((λ _. all_divisible g.Z.Numerator.meaning c.args.list.now c.loop-i.i (omega arith) c.loop-i.invariant), (λ _. refl))
