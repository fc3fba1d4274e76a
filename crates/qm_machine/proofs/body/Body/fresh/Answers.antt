use Rattle.std.proofs.Common.{◌∙◌, Some, ap, refl, arith, length-set, append-nil}
use Rattle.std.proofs.lemmas.Bool.{and_from, lt-ltb}
use Rattle.qm_denot.specs.declared.Wire.{Wire}
use Rattle.qm_owner.specs.Places.{PlaceMap}
use Rattle.qm_proto.specs.Model.Acts.{with_one_counted}
use Rattle.qm_proto.specs.Model.State.{Part, with_slot}
use Rattle.qm_machine.specs.Views.{facts, tables, slots_in, near_in, far_in}
use Rattle.qm_machine.proofs.Leaving.{few_placed}
use Rattle.qm_machine.proofs.PlaceTables.{no_place, all_placed, slots_filled, near_by_slot, far_by_slot}
use Rattle.qm_machine.proofs.RankTables.{same_tables, part_read, parts_changed}
use Rattle.qm_machine.proofs.Squares.{did_fresh}
use Rattle.qm_machine.proofs.body.Body.fresh.Goals as goal

pub fresh-requires-clause-absent : goal.fresh-requires-clause-absent
unfolding tables
fresh-requires-clause-absent g c h =
    let at = (c.requires.can.sound.live c.far_made-w.result).0 h in
    c.requires.can.may.0.absent (rw c.far_made-w.ensures at at)

pub fresh-requires-clause-room : goal.fresh-requires-clause-room
unfolding tables
fresh-requires-clause-room g c = omega (arith, c.requires.can.may.0.room, c.requires.can.sound.room)

pub put-requires-clause-absent : goal.put-requires-clause-absent
unfolding tables
put-requires-clause-absent g c =
    no_place (facts g.A.Amps.store c.args.self.now).tables c.args.self.now.books.places.placed refl refl refl c.requires.can.sound.placing c.far_made-w.result
    (λ at. c.requires.can.may.0.absent (rw c.far_made-w.ensures at at))

pub put-requires-clause-known : goal.put-requires-clause-known
unfolding tables
put-requires-clause-known g c =
    let ranks = c.requires.can.sound.slotted in
    let known = c.requires.can.known in
    and_from _ _ (lt-ltb c.args.rank c.args.self.now.books.places.ranks (omega arith)) (lt-ltb c.args.q 16 c.requires.can.may.0.slot)

pub put-requires-clause-free : goal.put-requires-clause-free
unfolding tables
put-requires-clause-free g c = c.requires.can.may.0.empty

pub put-requires-clause-room : goal.put-requires-clause-room
unfolding tables
put-requires-clause-room g c =
    let t = tables c.args.self.now.books in
    let es = c.args.self.now.books.places.placed in
    let sound = c.requires.can.sound in
    let few = few_placed es _ sound.placing (g.met.A.Amps.sound c.args.self.now.amps).distinct
    (λ w h. (sound.live w).1 (all_placed t es refl refl refl sound.placing w h)) in
    omega (arith, few, c.requires.can.may.0.room)

pub index_mut-requires : goal.index_mut-requires
unfolding tables
index_mut-requires g c = let e = c.args.self.now.books.ranks.ok.0 in let h = c.requires.can.known in omega arith

pub count_wire-requires : goal.count_wire-requires
unfolding tables
count_wire-requires g c =
    let read = part_read c.args.self.now.books.ranks.items c.from.result c.args.rank c.index_mut.result.now c.from.ensures c.requires.can.known c.index_mut.ensures.value in
    let made = ap (λ (x : Part). x.made) read in
    let h = c.requires.can.may.0.countable in
    rw made h

pub returns : goal.returns
unfolding tables
returns g c =
    let ranks = c.args.self.now.books.ranks.items in
    let es = c.args.self.now.books.places.placed in
    let r = c.args.rank in
    let q = c.args.q in
    let w = c.far_made-w.result in
    let is = c.far_made-w.ensures in
    let put = c.put.ensures.places in
    let live = c.fresh.ensures.live in
    let slots = ap (λ (m : PlaceMap). slots_in m.placed) put ∙ slots_filled es w r q c.requires.can.may.0.empty ∙ ap (λ (v : Wire). with_slot (slots_in es) r q (Some v)) is in
    let near = ap (λ (m : PlaceMap). near_in m.placed) put ∙ near_by_slot es w r q in
    let far = ap (λ (m : PlaceMap). far_in m.placed) put ∙ far_by_slot es w r q in
    let parts = parts_changed ranks c.from.result r c.index_mut.result.now c.count_wire.new.self with_one_counted c.from.ensures c.requires.can.known c.index_mut.ensures.value
    c.count_wire.ensures in
    did_fresh _ _ r q c.requires.can (same_tables _ _ parts slots near far refl refl)
    (record {
      stands = λ c' h. rw (append-nil c') (c.fresh.ensures.stands c' h);
      room = c.fresh.ensures.capacity;
      placing = c.put.ensures.placing;
      slotted = ap (λ (m : PlaceMap). m.ranks) put;
      capacity = ap (λ (m : PlaceMap). m.capacity) put;
      sizes = refl;
      parcels = refl;
      ranks = length-set ranks c.from.result c.count_wire.new.self;
      letters = omega arith;
      paulis = omega arith;
    })
    (rw is at live)
