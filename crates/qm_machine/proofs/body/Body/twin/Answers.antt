use Rattle.std.proofs.Common.{◌≡◌, ◌≢◌, ◌∙◌, ◌<◌, ℕ, true, false, None, length, ap, refl, sym, arith, length-set, length-append}
use Rattle.qm_denot.specs.declared.Wire.{Wire}
use Rattle.qm_denot.specs.Wires.{Wires, put}
use Rattle.qm_buffers.specs.Halves.{buffer_at}
use Rattle.qm_owner.specs.Places.{PlaceMap, place_of}
use Rattle.qm_owner.proofs.Standing.{still_absent}
use Rattle.qm_proto.specs.Model.Acts.{with_one_counted, more_at}
use Rattle.qm_proto.specs.Model.State.{Part, with_at, near_made, far_made}
use Rattle.qm_machine.specs.Views.{tables, slots_in, near_in, far_in}
use Rattle.qm_machine.specs.Facts.{size_at}
use Rattle.qm_machine.proofs.Leaving.{few_placed, size_read, grown_at}
use Rattle.qm_machine.proofs.PlaceTables.{no_place, all_placed, slots_by_near, near_come, far_by_near, slots_by_far, near_by_far, far_come}
use Rattle.qm_machine.proofs.RankTables.{same_tables, part_read, parts_changed}
use Rattle.qm_machine.proofs.Squares.{may_pair, did_twin}
use Rattle.qm_machine.proofs.body.Body.twin.Goals as goal

pub do_letter-requires-clause-may : goal.do_letter-requires-clause-may
unfolding tables
do_letter-requires-clause-may g c = rw c.far_made-f.ensures (may_pair _ c.args.rank c.args.to c.requires.can c.requires.grow)

pub put-requires-clause-absent : goal.put-requires-clause-absent
unfolding tables
put-requires-clause-absent g c =
    let t = tables c.args.self.now.books in
    rw c.far_made-f.ensures
    (no_place t c.args.self.now.books.places.placed refl refl refl c.requires.can.sound.placing (near_made t c.args.rank) c.requires.can.may.0.near_absent)

pub put-requires-clause-room : goal.put-requires-clause-room
unfolding tables
put-requires-clause-room g c =
    let t = tables c.args.self.now.books in
    let es = c.args.self.now.books.places.placed in
    let sound = c.requires.can.sound in
    let few = few_placed es _ sound.placing (g.met.A.Amps.sound c.args.self.now.amps).distinct
    (λ w h. (sound.live w).1 (all_placed t es refl refl refl sound.placing w h)) in
    omega (arith, few, c.requires.can.may.0.room)

pub put-requires-2-clause-absent : goal.put-requires-2-clause-absent
unfolding tables
put-requires-2-clause-absent g c =
    let t = tables c.args.self.now.books in
    let es = c.args.self.now.books.places.placed in
    let f = c.far_made-f.result in
    let e : Wire = record f { near = true } in
    let absent : place_of es f ≡ None = rw c.far_made-f.ensures (no_place t es refl refl refl c.requires.can.sound.placing (far_made t c.args.rank) c.requires.can.may.0.far_absent) in
    let apart : e ≢ f = λ same.
    let named : f.near ≡ false = ap (λ (w : Wire). w.near) c.far_made-f.ensures in
    let h : true ≡ f.near = ap (λ (w : Wire). w.near) same in let n : ⊥ = cc in n in
    ap (λ (m : PlaceMap). place_of m.placed f) c.put.ensures.places ∙ still_absent es e f _ absent apart

pub put-requires-2-clause-room : goal.put-requires-2-clause-room
unfolding tables
put-requires-2-clause-room g c =
    let t = tables c.args.self.now.books in
    let es = c.args.self.now.books.places.placed in
    let sound = c.requires.can.sound in
    let few = few_placed es _ sound.placing (g.met.A.Amps.sound c.args.self.now.amps).distinct
    (λ w h. (sound.live w).1 (all_placed t es refl refl refl sound.placing w h)) in
    let size = ap (λ (m : PlaceMap). length m.placed) c.put.ensures.places ∙ length-append es _ in
    let capacity = ap (λ (m : PlaceMap). m.capacity) c.put.ensures.places in
    omega (arith, few, size, capacity, c.requires.can.may.0.room)

pub add-requires : goal.add-requires
unfolding tables
add-requires g c = omega (arith, c.requires.can.counted.0.0, size_read c.args.self.now.books.halves c.args.rank)

pub add-requires-2 : goal.add-requires-2
unfolding tables
add-requires-2 g c =
    let bs = c.args.self.now.books.halves in
    let r = c.args.rank in
    let to = c.args.to in
    let room : (buffer_at bs r).held < (buffer_at bs r).size = omega (arith, c.requires.can.counted.0.0, size_read bs r) in
    let grown = grown_at bs c.add.new.self r c.add.ensures room in
    let held = ap (λ (f : ℕ → ℕ). f to) grown.0 in
    let size = sym (size_read c.add.new.self to) ∙ ap (λ ns. size_at ns to) grown.1 in
    omega (arith, held, size, c.requires.can.counted.0.1)

pub index_mut-requires : goal.index_mut-requires
unfolding tables
index_mut-requires g c = let e = c.args.self.now.books.ranks.ok.0 in let h = c.requires.can.known in omega arith

pub count_wire-requires : goal.count_wire-requires
unfolding tables
count_wire-requires g c =
    let read = part_read c.args.self.now.books.ranks.items c.from.result c.args.rank c.index_mut.result.now c.from.ensures c.requires.can.known c.index_mut.ensures.value in
    let made = ap (λ (x : Part). x.made) read in
    let h = c.requires.can.may.0.countable in
    rw made h

pub overflow_add-self : goal.overflow_add-self
unfolding tables
overflow_add-self g c = let h = c.requires.can.may.0.letter in omega arith

pub returns : goal.returns
unfolding tables
returns g c =
    let ranks = c.args.self.now.books.ranks.items in
    let t = tables c.args.self.now.books in
    let es = c.args.self.now.books.places.placed in
    let bs = c.args.self.now.books.halves in
    let r = c.args.rank in
    let to = c.args.to in
    let f = c.far_made-f.result in
    let e : Wire = record f { near = true } in
    let is : f ≡ far_made t r = c.far_made-f.ensures in
    let near_is : e ≡ near_made t r = ap (λ (w : Wire). record w { near = true }) is in
    let one = c.put.ensures.places in
    let two = c.put-2.ensures.places in
    let mid = c.put.new.self.placed in
    let room : (buffer_at bs r).held < (buffer_at bs r).size = omega (arith, c.requires.can.counted.0.0, size_read bs r) in
    let first = grown_at bs c.add.new.self r c.add.ensures room in
    let size = sym (size_read c.add.new.self to) ∙ ap (λ ns. size_at ns to) first.1 in
    let here = ap (λ (h : ℕ → ℕ). h to) first.0 in
    let second = grown_at c.add.new.self c.add-2.new.self to c.add-2.ensures (omega (arith, here, size, c.requires.can.counted.0.1)) in
    let slots = ap (λ (m : PlaceMap). slots_in m.placed) two ∙ slots_by_far mid f to ∙ ap (λ (m : PlaceMap). slots_in m.placed) one ∙ slots_by_near es e r in
    let near = ap (λ (m : PlaceMap). near_in m.placed) two ∙ near_by_far mid f to ∙ ap (λ (m : PlaceMap). near_in m.placed) one ∙ near_come es e r
    ∙ ap (λ (w : Wire). with_at (near_in es) r (put (near_in es r) w true)) near_is in
    let far_mid = ap (λ (m : PlaceMap). far_in m.placed) one ∙ far_by_near es e r in
    let far = ap (λ (m : PlaceMap). far_in m.placed) two ∙ far_come mid f to
    ∙ ap (λ (xs : ℕ → Wires). with_at xs to (put (xs to) f true)) far_mid
    ∙ ap (λ (w : Wire). with_at (far_in es) to (put (far_in es to) w true)) is in
    let held = second.0 ∙ ap (λ (h : ℕ → ℕ). more_at h to) first.0 in
    let parts = parts_changed ranks c.from.result r c.index_mut.result.now c.count_wire.new.self with_one_counted c.from.ensures c.requires.can.known c.index_mut.ensures.value
    c.count_wire.ensures in
    let stands = c.do_letter.ensures.stands in
    let live = c.do_letter.ensures.live in
    did_twin _ _ r to c.requires.can (same_tables _ _ parts slots near far held refl)
    (record {
      stands = rw is at stands;
      room = c.do_letter.ensures.capacity;
      placing = c.put-2.ensures.placing;
      slotted = ap (λ (m : PlaceMap). m.ranks) two ∙ ap (λ (m : PlaceMap). m.ranks) one;
      capacity = ap (λ (m : PlaceMap). m.capacity) two ∙ ap (λ (m : PlaceMap). m.capacity) one;
      sizes = second.1 ∙ first.1;
      parcels = refl;
      ranks = length-set ranks c.from.result c.count_wire.new.self;
      letters = refl;
      paulis = omega arith;
    })
    (rw is at live)
