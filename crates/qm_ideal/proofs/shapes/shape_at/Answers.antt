use Rattle.std.proofs.Common.{◌∙◌, sym, ap, slice_get}
use Rattle.qm_ideal.specs.MeetingViews.{maybe_shape}
use Rattle.qm_ideal.proofs.ShapeLemmas.{shape_taken, shape_past}
use Rattle.qm_ideal.proofs.shapes.shape_at.Goals as goal

pub returns-then-place-all : goal.returns-then-place-all
returns-then-place-all c =
    let all = c.events_of-all.result in
    ap maybe_shape c.shape_in_list.ensures ∙ shape_taken all.items all.count c.args.stage c.if-place-all.true ∙ ap (λ ss. slice_get ss c.args.stage) c.events_of-all.ensures

pub returns-else-place-all : goal.returns-else-place-all
returns-else-place-all c =
    let all = c.events_of-all.result in
    sym (shape_past all.items all.count c.args.stage c.if-place-all.false) ∙ ap (λ ss. slice_get ss c.args.stage) c.events_of-all.ensures
