use Rattle.std.proofs.Common.{◌∙◌, ◌≤◌, ◌++◌, ◌∷◌, [], List, sym, ap, refl, length, arith}
use Rattle.std.specs.Option.{option_copied_mut}
use Rattle.std.specs.VecDeque.{deque_capacity}
use Rattle.qm_denot.specs.declared.Parcel.{Parcel}
use Rattle.qm_mail.proofs.Shown.{shown_parcels, shown_sends, shown_written}
use Rattle.qm_mail.proofs.Mail.post.Goals as goal

pub push_back_reserved-requires : goal.push_back_reserved-requires
push_back_reserved-requires c =
    let q = c.in-Some.queue.now in
    let found = sym (ap option_copied_mut c.in-Some.is) ∙ c.get_mut.ensures.value in
    let parcels = shown_parcels c.self.inside.lanes c.args.self.now c.args.lane _ c.self.view_is found in
    let sends = shown_sends c.self.inside.lanes c.args.self.now c.args.lane _ c.self.view_is found in
    let reserved : q.sends ≤ deque_capacity q.parcels = q.reserved in
    omega (arith, ap (λ (xs : List Parcel). length xs) parcels, sends, c.requires, q.parcels.ok.0, reserved)

pub unreachable-requires : goal.unreachable-requires
unreachable-requires c =
    let found = sym (ap option_copied_mut c.in-None.is) ∙ c.get_mut.ensures.value in
    let sends = shown_sends c.self.inside.lanes c.args.self.now c.args.lane _ c.self.view_is found in
    omega (arith, sends, c.requires)

pub returns : goal.returns
returns c =
    let q = c.in-Some.queue.now in
    let found = sym (ap option_copied_mut c.in-Some.is) ∙ c.get_mut.ensures.value in
    let parcels = shown_parcels c.self.inside.lanes c.args.self.now c.args.lane _ c.self.view_is found in
    shown_written c.self.inside.lanes (c.get_mut.follows.lender _) c.args.self.now c.args.lane q _ _
    c.self.view_is found refl (c.push_back_reserved.ensures.items ∙ ap (λ (xs : List Parcel). xs ++ c.args.parcel ∷ []) (sym parcels)) (c.get_mut.follows.holds _).0
