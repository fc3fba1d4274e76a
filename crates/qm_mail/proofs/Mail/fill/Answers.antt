use Rattle.std.proofs.Common.{◌≡◌, ◌<◌, ◌∙◌, false, true, sym, ap, subst, refl, length, arith, deque_len}
use Rattle.std.specs.Option.{option_copied_mut}
use Rattle.qm_denot.specs.Parcels.{IsFillable, filled}
use Rattle.qm_mail.proofs.Filling.{filled_last, some_fillable}
use Rattle.qm_mail.proofs.Shown.{shown_parcels, shown_written}
use Rattle.qm_mail.proofs.Mail.fill.Goals as goal

pub unreachable-requires : goal.unreachable-requires
unreachable-requires c =
    let found = sym (ap option_copied_mut c.in-Some.is) ∙ c.get_mut.ensures.value in
    let parcels = shown_parcels c.self.inside.lanes c.args.self.now c.args.lane _ c.self.view_is found in
    let last = subst IsFillable parcels c.requires in
    let q = c.in-Some.queue.now in
    let some : 0 < length q.parcels.items = some_fillable q.parcels.items last in
    let found : false ≡ true = (c.in-None-back_mut.ensures).variant.1 (omega (arith, some, q.parcels.ok.0)) in
    let f : ⊥ = cc in f

pub unreachable-requires-in-None : goal.unreachable-requires-in-None
unreachable-requires-in-None c =
    let found = sym (ap option_copied_mut c.in-None.is) ∙ c.get_mut.ensures.value in
    subst IsFillable (shown_parcels c.self.inside.lanes c.args.self.now c.args.lane _ c.self.view_is found) c.requires

pub returns : goal.returns
returns c =
    let q = c.in-Some.queue.now in
    let found = sym (ap option_copied_mut c.in-Some.is) ∙ c.get_mut.ensures.value in
    let parcels = shown_parcels c.self.inside.lanes c.args.self.now c.args.lane _ c.self.view_is found in
    let last = filled_last q.parcels.items (deque_len q.parcels) c.in-Some-back_mut.parcel.now c.args.bits q.parcels.ok.0 c.in-Some-back_mut.ensures.value in
    shown_written c.self.inside.lanes (c.get_mut.follows.lender _) c.args.self.now c.args.lane q _ _
    c.self.view_is found refl (last ∙ ap (λ xs. filled xs c.args.bits) (sym parcels)) (c.get_mut.follows.holds _).0
