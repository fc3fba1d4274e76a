use Rattle.std.proofs.Common.{◌≡◌, ◌∙◌, false, Some, IsSome, ap, refl, sym, subst, arith}
use Rattle.qm_denot.specs.declared.Wire.{Wire}
use Rattle.qm_denot.specs.Wires.{put}
use Rattle.qm_owner.specs.declared.Place.TheVariants.{Near}
use Rattle.qm_owner.specs.Places.{PlaceMap, place_of}
use Rattle.qm_proto.specs.Model.State.{with_at, near_last}
use Rattle.qm_machine.specs.Views.{tables, slots_in, near_in, far_in}
use Rattle.qm_machine.proofs.Leaving.{slots_after_near, near_left, far_after_near, shrunk_at}
use Rattle.qm_machine.proofs.PlaceTables.{place_at}
use Rattle.qm_machine.proofs.RankTables.{same_tables}
use Rattle.qm_machine.proofs.Squares.{near_lives, did_near_out}
use Rattle.qm_machine.proofs.body.Body.near_out.Goals as goal

pub do_letter-requires-clause-may : goal.do_letter-requires-clause-may
unfolding tables
do_letter-requires-clause-may g c = rw c.near_last-w.ensures (near_lives _ c.args.rank c.args.m c.requires.can)

pub take-requires : goal.take-requires
unfolding tables
take-requires g c =
    let t = tables c.args.self.now.books in
    let es = c.args.self.now.books.places.placed in
    let at = place_at t es refl refl refl c.requires.can.sound.placing (near_last t c.args.rank) (Near c.args.rank) c.requires.can.may.0.only.here in
    rw c.near_last-w.ensures (subst IsSome (sym at) refl)

pub drop_half-requires : goal.drop_half-requires
unfolding tables
drop_half-requires g c = c.requires.can.counted.0

pub overflow_add-self : goal.overflow_add-self
unfolding tables
overflow_add-self g c = let h = c.requires.can.may.0.letter in omega arith

pub returns : goal.returns
unfolding tables
returns g c =
    let t = tables c.args.self.now.books in
    let es = c.args.self.now.books.places.placed in
    let bs = c.args.self.now.books.halves in
    let r = c.args.rank in
    let w = c.near_last-w.result in
    let is : w ≡ near_last t r = c.near_last-w.ensures in
    let placing = c.requires.can.sound.placing in
    let last = place_at t es refl refl refl placing (near_last t r) (Near r) c.requires.can.may.0.only.here in
    let at : place_of es w ≡ Some (Near r) = ap (place_of es) is ∙ last in
    let rest = c.take.ensures.rest in
    let fewer = shrunk_at bs c.drop_half.new.self r c.drop_half.ensures c.requires.can.counted.0 in
    let slots = ap (λ (m : PlaceMap). slots_in m.placed) rest ∙ slots_after_near es w r placing at in
    let near = ap (λ (m : PlaceMap). near_in m.placed) rest ∙ near_left es w r placing at
    ∙ ap (λ (v : Wire). with_at (near_in es) r (put (near_in es r) v false)) is in
    let far = ap (λ (m : PlaceMap). far_in m.placed) rest ∙ far_after_near es w r placing at in
    let stands = c.do_letter.ensures.stands in
    let live = c.do_letter.ensures.live in
    did_near_out _ _ r c.args.m c.requires.can (g.met.A.Amps.sound c.args.self.now.amps) (same_tables _ _ refl slots near far fewer.0 refl)
    (record {
      stands = rw is at stands;
      room = c.do_letter.ensures.capacity;
      placing = c.take.ensures.placing;
      slotted = ap (λ (m : PlaceMap). m.ranks) rest;
      capacity = ap (λ (m : PlaceMap). m.capacity) rest;
      sizes = fewer.1;
      parcels = refl;
      ranks = refl;
      letters = refl;
      paulis = omega arith;
    })
    (rw is at live)
