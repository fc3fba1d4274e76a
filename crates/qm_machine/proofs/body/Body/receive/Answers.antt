use Rattle.std.proofs.Common.{◌∙◌, ℕ, drop, ap, arith, length-set}
use Rattle.qm_denot.specs.declared.Parcel.{Parcel}
use Rattle.qm_proto.specs.Model.State.{Part, Tables, with_at}
use Rattle.qm_machine.specs.Views.{MailView, facts, tables, mail_of, with_mail}
use Rattle.qm_machine.proofs.RankTables.{parts_changed}
use Rattle.qm_machine.proofs.MailTables.{mail_changed, known_to_take, bits_there, front_read}
use Rattle.qm_machine.proofs.Squares.{same_beside, did_receive}
use Rattle.qm_machine.proofs.body.Body.receive.Goals as goal

pub take-parcel-requires : goal.take-parcel-requires
unfolding tables
take-parcel-requires g c = bits_there _ c.requires.may.0

pub index_mut-requires : goal.index_mut-requires
unfolding tables
index_mut-requires g c = let e = c.args.self.now.books.ranks.ok.0 in let h = c.requires.known in omega arith

pub returns : goal.returns
unfolding tables
returns g c =
    let f = facts g.A.Amps.store c.args.self.now in
    let ranks = c.args.self.now.books.ranks.items in
    let t = tables c.args.self.now.books in
    let m = c.args.self.now.books.mail in
    let mail = mail_of m in
    let lane = c.args.lane in
    let rest = ap mail_of c.take-parcel.ensures.rest ∙ mail_changed m lane _ (known_to_take m lane (bits_there _ c.requires.may.0)) in
    let r = c.args.rank in
    let parcel = c.take-parcel.result in
    let taken = λ (p : Parcel) (x : Part). record x { taken = p } in
    let with : (ℕ → Part) → MailView → Tables = λ parts m. record t { parts = parts; lanes = m.lanes } in
    let received = λ (p : Parcel). with_at t.parts r (taken p (t.parts r)) in
    let parts = parts_changed ranks c.from.result r c.index_mut.result.now c.receive.new.self (taken parcel) c.from.ensures c.requires.known c.index_mut.ensures.value
    c.receive.ensures in
    did_receive _ _ r
    (same_beside f _ _ _ c.requires.sound.placing (ap (λ (m : MailView). m.parcels) rest) (length-set ranks c.from.result c.receive.new.self))
    lane c.requires
    (ap (λ (x : ℕ → Part). with x (mail_of c.take-parcel.new.self)) parts
    ∙ ap (with (received parcel)) rest
    ∙ ap (λ (p : Parcel). with (received p) (with_mail mail lane (drop 1 (mail.lanes lane)))) (front_read _ parcel c.take-parcel.ensures.front))
