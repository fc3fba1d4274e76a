use Rattle.std.proofs.Common.{◌∙◌, IsSome, ap, refl, sym, subst, arith}
use Rattle.qm_owner.specs.declared.Place.TheVariants.{Far}
use Rattle.qm_owner.specs.Places.{PlaceMap}
use Rattle.qm_proto.specs.Model.Places.{FarOf}
use Rattle.qm_machine.specs.Views.{tables, slots_in, near_in, far_in}
use Rattle.qm_machine.proofs.Leaving.{slots_after_far, near_after_far, far_left, shrunk_at}
use Rattle.qm_machine.proofs.PlaceTables.{place_at}
use Rattle.qm_machine.proofs.RankTables.{same_tables}
use Rattle.qm_machine.proofs.Squares.{did_far_out}
use Rattle.qm_machine.proofs.body.Body.far_out.Goals as goal

pub do_letter-requires-clause-may : goal.do_letter-requires-clause-may
unfolding tables
do_letter-requires-clause-may g c = (c.requires.can.sound.live c.args.f).1 (FarOf c.args.rank, c.requires.can.may.0.only.here)

pub take-requires : goal.take-requires
unfolding tables
take-requires g c =
    let t = tables c.args.self.now.books in
    let es = c.args.self.now.books.places.placed in
    let at = place_at t es refl refl refl c.requires.can.sound.placing c.args.f (Far c.args.rank) c.requires.can.may.0.only.here in
    subst IsSome (sym at) refl

pub drop_half-requires : goal.drop_half-requires
unfolding tables
drop_half-requires g c = c.requires.can.counted.0

pub overflow_add-self : goal.overflow_add-self
unfolding tables
overflow_add-self g c = let h = c.requires.can.may.0.letter in omega arith

pub returns : goal.returns
unfolding tables
returns g c =
    let t = tables c.args.self.now.books in
    let es = c.args.self.now.books.places.placed in
    let r = c.args.rank in
    let f = c.args.f in
    let placing = c.requires.can.sound.placing in
    let at = place_at t es refl refl refl placing f (Far r) c.requires.can.may.0.only.here in
    let rest = c.take.ensures.rest in
    let fewer = shrunk_at c.args.self.now.books.halves c.drop_half.new.self r c.drop_half.ensures c.requires.can.counted.0 in
    let slots = ap (λ (m : PlaceMap). slots_in m.placed) rest ∙ slots_after_far es f r placing at in
    let near = ap (λ (m : PlaceMap). near_in m.placed) rest ∙ near_after_far es f r placing at in
    let far = ap (λ (m : PlaceMap). far_in m.placed) rest ∙ far_left es f r placing at in
    did_far_out _ _ r f c.args.m c.requires.can (g.met.A.Amps.sound c.args.self.now.amps) (same_tables _ _ refl slots near far fewer.0 refl)
    (record {
      stands = c.do_letter.ensures.stands;
      room = c.do_letter.ensures.capacity;
      placing = c.take.ensures.placing;
      slotted = ap (λ (m : PlaceMap). m.ranks) rest;
      capacity = ap (λ (m : PlaceMap). m.capacity) rest;
      sizes = fewer.1;
      parcels = refl;
      ranks = refl;
      letters = refl;
      paulis = omega arith;
    })
    c.do_letter.ensures.live
