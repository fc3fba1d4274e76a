use Rattle.std.proofs.Common.{◌∙◌, IsSome, ap, refl, sym, subst, arith}
use Rattle.qm_owner.specs.declared.Place.TheVariants.{Slot}
use Rattle.qm_owner.specs.Places.{PlaceMap}
use Rattle.qm_proto.specs.Model.Places.{InSlot}
use Rattle.qm_machine.specs.Views.{tables, slots_in, near_in, far_in}
use Rattle.qm_machine.proofs.Leaving.{slots_emptied, near_after_slot, far_after_slot}
use Rattle.qm_machine.proofs.PlaceTables.{place_at}
use Rattle.qm_machine.proofs.RankTables.{same_tables}
use Rattle.qm_machine.proofs.Squares.{did_slot_out}
use Rattle.qm_machine.proofs.body.Body.slot_out.Goals as goal

pub do_letter-requires-clause-may : goal.do_letter-requires-clause-may
unfolding tables
do_letter-requires-clause-may g c = (c.requires.can.sound.live c.in-Some.w).1 (InSlot c.args.rank c.args.q, sym c.in-Some.ensures)

pub take-requires : goal.take-requires
unfolding tables
take-requires g c =
    let t = tables c.args.self.now.books in
    let es = c.args.self.now.books.places.placed in
    let at = place_at t es refl refl refl c.requires.can.sound.placing c.in-Some.w (Slot c.args.rank c.args.q) (sym c.in-Some.ensures) in
    subst IsSome (sym at) refl

pub overflow_add-self : goal.overflow_add-self
unfolding tables
overflow_add-self g c = let h = c.requires.can.may.0.letter in omega arith

pub returns-in-Some : goal.returns-in-Some
unfolding tables
returns-in-Some g c =
    let t = tables c.args.self.now.books in
    let es = c.args.self.now.books.places.placed in
    let r = c.args.rank in
    let q = c.args.q in
    let w = c.in-Some.w in
    let placing = c.requires.can.sound.placing in
    let at = place_at t es refl refl refl placing w (Slot r q) (sym c.in-Some.ensures) in
    let rest = c.take.ensures.rest in
    let slots = ap (λ (m : PlaceMap). slots_in m.placed) rest ∙ slots_emptied es w r placing q at in
    let near = ap (λ (m : PlaceMap). near_in m.placed) rest ∙ near_after_slot es w r placing q at in
    let far = ap (λ (m : PlaceMap). far_in m.placed) rest ∙ far_after_slot es w r placing q at in
    did_slot_out _ _ r q c.args.m w c.requires.can (sym c.in-Some.ensures) (g.met.A.Amps.sound c.args.self.now.amps) (same_tables _ _ refl slots near far refl refl)
    (record {
      stands = c.do_letter.ensures.stands;
      room = c.do_letter.ensures.capacity;
      placing = c.take.ensures.placing;
      slotted = ap (λ (m : PlaceMap). m.ranks) rest;
      capacity = ap (λ (m : PlaceMap). m.capacity) rest;
      sizes = refl;
      parcels = refl;
      ranks = refl;
      letters = refl;
      paulis = omega arith;
    })
    c.do_letter.ensures.live
