use Rattle.std.proofs.Common.{◌∙◌, sym, subst, below_more}
use Rattle.std.proofs.lemmas.Bool.{false≢true}
use Rattle.qm_denot.proofs.Numerators.{number_here}
use Rattle.qm_kernels.specs.Small.{IsSmall}
use Rattle.qm_kernels.proofs.small.all_small.Goals as goal

pub returns-then-not-is_small : goal.returns-then-not-is_small
returns-then-not-is_small c =
    let here = number_here c.args.list.now c.loop-i.i c.index-list-i.result c.loop-i-test.true c.index-list-i.is in
    ((λ never. absurd (false≢true never)), (λ all. sym c.if-not-is_small.true ∙ c.is_small.ensures.1 (subst IsSmall here (all c.loop-i.i c.loop-i-test.true))))

pub loop-i-preserved : goal.loop-i-preserved
loop-i-preserved c =
    let here = number_here c.args.list.now c.loop-i.i c.index-list-i.result c.loop-i-test.true c.index-list-i.is in
    below_more _ _ c.loop-i.invariant (subst IsSmall (sym here) (c.is_small.ensures.0 c.if-not-is_small.false))
