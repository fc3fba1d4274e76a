use Rattle.std.proofs.Common.{◌∙◌, sym, subst, arith}
use Rattle.qm_zomega.specs.Numbers.{zero_number, IsDivisible}
use Rattle.qm_zomega.proofs.SeenLaws.{seen-here}
use Rattle.qm_scale.proofs.ScaleLaws.{halved_more, rest_kept, all_halved}
use Rattle.qm_scale.proofs.generic.halve_all.Goals as goal

pub halved-requires : goal.halved-requires
halved-requires g c =
    let here = seen-here g.Z.Numerator.meaning zero_number c.loop-i.list c.loop-i.i c.index-list-i.result (omega arith) c.index-list-i.is in
    subst IsDivisible (sym (c.loop-i.invariant.after c.loop-i.i (omega arith)) ∙ here) (c.requires c.loop-i.i)

pub loop-i-preserved : goal.loop-i-preserved
loop-i-preserved g c =
    let here = seen-here g.Z.Numerator.meaning zero_number c.loop-i.list c.loop-i.i c.index-list-i.result (omega arith) c.index-list-i.is in
    record {
      before = halved_more g.Z.Numerator.meaning c.args.list.now c.loop-i.list c.loop-i.i c.halved.result (omega arith) c.loop-i.invariant.before c.loop-i.invariant.after
          (c.halved.ensures ∙ sym here ∙ c.loop-i.invariant.after c.loop-i.i (omega arith));
      after = rest_kept g.Z.Numerator.meaning c.args.list.now c.loop-i.list c.loop-i.i c.halved.result (omega arith) c.loop-i.invariant.before c.loop-i.invariant.after;
    }

pub returns-clause-halved : goal.returns-clause-halved
returns-clause-halved g c = all_halved g.Z.Numerator.meaning c.args.list.now c.loop-i.list c.loop-i.i (omega arith) (omega arith) c.loop-i.invariant.before
