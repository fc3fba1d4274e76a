use Rattle.std.proofs.Common.{◌≡◌, ◌<◌, ◌∙◌, false, true, length, drop, sym, ap, subst, refl, slice_get, arith}
use Rattle.std.specs.Option.{option_copied_mut}
use Rattle.qm_mail.specs.Mails.{HasBits}
use Rattle.qm_mail.proofs.Fronts.{some_with_bits}
use Rattle.qm_mail.proofs.Shown.{shown_parcels, shown_written}
use Rattle.qm_mail.proofs.Mail.take.Goals as goal

pub unreachable-requires : goal.unreachable-requires
unreachable-requires c =
    let found = sym (ap option_copied_mut c.in-Some.is) ∙ c.get_mut.ensures.value in
    let parcels = shown_parcels c.self.inside.lanes c.args.self.now c.args.lane _ c.self.view_is found in
    let q = c.in-Some.queue.now in
    let some : 0 < length q.parcels.items = some_with_bits q.parcels.items (subst (λ xs. HasBits (slice_get xs 0)) parcels c.requires) in
    let popped : false ≡ true = (c.in-None-pop_front.ensures).variant.1 (omega (arith, some, q.parcels.ok.0)) in
    let f : ⊥ = cc in f

pub unreachable-requires-in-None : goal.unreachable-requires-in-None
unreachable-requires-in-None c =
    let found = sym (ap option_copied_mut c.in-None.is) ∙ c.get_mut.ensures.value in
    subst (λ xs. HasBits (slice_get xs 0)) (shown_parcels c.self.inside.lanes c.args.self.now c.args.lane _ c.self.view_is found) c.requires

pub returns-clause-front : goal.returns-clause-front
returns-clause-front c =
    let found = sym (ap option_copied_mut c.in-Some.is) ∙ c.get_mut.ensures.value in
    let parcels = shown_parcels c.self.inside.lanes c.args.self.now c.args.lane _ c.self.view_is found in
    ap (λ xs. slice_get xs 0) parcels
    ∙ ap (λ xs. slice_get xs 0) (c.in-Some-pop_front.ensures).items

pub returns-clause-rest : goal.returns-clause-rest
returns-clause-rest c =
    let q = c.in-Some.queue.now in
    let found = sym (ap option_copied_mut c.in-Some.is) ∙ c.get_mut.ensures.value in
    let parcels = shown_parcels c.self.inside.lanes c.args.self.now c.args.lane _ c.self.view_is found in
    shown_written c.self.inside.lanes (c.get_mut.follows.lender _) c.args.self.now c.args.lane q _ _
    c.self.view_is found refl (c.pop_front.ensures.rest ∙ ap (drop 1) (sym parcels)) (c.get_mut.follows.holds _).0
