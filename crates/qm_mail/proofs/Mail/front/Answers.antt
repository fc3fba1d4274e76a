use Rattle.std.proofs.Common.{◌∙◌, slice_get, sym, ap}
use Rattle.std.specs.Option.{option_copied}
use Rattle.qm_mail.proofs.Fronts.{front_read}
use Rattle.qm_mail.proofs.Shown.{shown_parcels}
use Rattle.qm_mail.proofs.Mail.front.Goals as goal

pub returns-in-Some : goal.returns-in-Some
returns-in-Some c =
    let found = sym (ap option_copied c.in-Some.is) ∙ c.get.ensures.value in
    let parcels = shown_parcels c.self.inside.lanes c.args.self.now c.args.lane _ c.self.view_is found in
    let q = c.in-Some.queue.now in
    c.copied.ensures
    ∙ front_read q.parcels.items _ c.front.result q.parcels.ok.0 c.front.ensures.variant c.front.ensures.lookup
    ∙ sym (ap (λ xs. slice_get xs 0) parcels)

pub returns-in-None : goal.returns-in-None
returns-in-None c =
    let found = sym (ap option_copied c.in-None.is) ∙ c.get.ensures.value in
    sym (ap (λ xs. slice_get xs 0) (shown_parcels c.self.inside.lanes c.args.self.now c.args.lane _ c.self.view_is found))
