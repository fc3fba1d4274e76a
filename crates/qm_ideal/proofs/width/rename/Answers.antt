use Rattle.std.proofs.Common.{◌∙◌, slice_set, get_or, false, cond, ap, ap₂}
use Rattle.qm_denot.specs.declared.Wire.{Wire}
use Rattle.qm_denot.specs.Wires.{is_wire}
use Rattle.qm_ideal.proofs.WidthLemmas.{renamed_more}
use Rattle.qm_ideal.proofs.width.rename.Goals as goal

pub loop-wire-preserved : goal.loop-wire-preserved
loop-wire-preserved c =
    let d : Wire = record { rank = 0; made = 0; near = false } in
    let a = c.args.a in
    let b = c.args.b in
    let i = c.loop-wire.wire-index in
    let put = ap (λ ls. let v = get_or ls i d in cond (is_wire v a) b v) c.loop-wire.invariant in
    ap₂ (λ ls y. slice_set ls i y) c.loop-wire.invariant (c.renamed.ensures ∙ put)
    ∙ renamed_more a b c.args.live.now i d c.loop-wire-test.true
