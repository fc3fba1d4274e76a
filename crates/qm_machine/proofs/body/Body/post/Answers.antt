use Rattle.std.proofs.Common.{ap, refl, ◌∙◌}
use Rattle.qm_machine.specs.Views.{MailView, facts, tables, mail_of, tables_of}
use Rattle.qm_machine.proofs.MailTables.{mail_changed, known_to_post}
use Rattle.qm_machine.proofs.Squares.{same_beside, did_post}
use Rattle.qm_machine.proofs.body.Body.post.Goals as goal

pub post-requires : goal.post-requires
unfolding tables
post-requires g c = c.requires

pub returns : goal.returns
unfolding tables
returns g c r can =
    let f = facts g.A.Amps.store c.args.self.now in
    let b = c.args.self.now.books in
    let m = b.mail in
    let mail = ap mail_of c.post.ensures ∙ mail_changed m c.args.lane _ (known_to_post m c.args.lane c.requires) in
    did_post _ _ r
    (same_beside f _ _ _ can.sound.placing (ap (λ (m : MailView). m.parcels) mail) refl)
    c.args.lane c.args.parcel can (ap (tables_of b.ranks.items b.places.placed b.halves) mail)
