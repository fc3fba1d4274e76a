use Rattle.std.proofs.Common.{◌∙◌, length, nat_eq, sym, ap}
use Rattle.std.specs.Option.{option_copied}
use Rattle.qm_mail.proofs.Shown.{shown_parcels}
use Rattle.qm_mail.proofs.Mail.is_empty.Goals as goal

pub returns-in-Some : goal.returns-in-Some
returns-in-Some c =
    let found = sym (ap option_copied c.in-Some.is) ∙ c.get.ensures.value in
    let parcels = shown_parcels c.self.inside.lanes c.args.self.now c.args.lane _ c.self.view_is found in
    c.is_empty.ensures
    ∙ ap (λ n. nat_eq n 0) c.in-Some.queue.now.parcels.ok.0
    ∙ sym (ap (λ xs. nat_eq (length xs) 0) parcels)

pub returns-in-None : goal.returns-in-None
returns-in-None c =
    let found = sym (ap option_copied c.in-None.is) ∙ c.get.ensures.value in
    sym (ap (λ xs. nat_eq (length xs) 0) (shown_parcels c.self.inside.lanes c.args.self.now c.args.lane _ c.self.view_is found))
