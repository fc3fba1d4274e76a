use Rattle.std.proofs.Common.{◌∙◌, IsSome, ap, refl, sym, subst, arith}
use Rattle.std.proofs.lemmas.Bool.{and_from, lt-ltb}
use Rattle.qm_owner.specs.declared.Place.TheVariants.{Far}
use Rattle.qm_owner.specs.Places.{PlaceMap}
use Rattle.qm_machine.specs.Views.{tables, slots_in, near_in, far_in}
use Rattle.qm_machine.proofs.Leaving.{slots_settled, near_settled, far_settled, shrunk_at}
use Rattle.qm_machine.proofs.PlaceTables.{place_at}
use Rattle.qm_machine.proofs.RankTables.{same_tables}
use Rattle.qm_machine.proofs.Squares.{did_settle}
use Rattle.qm_machine.proofs.body.Body.settle.Goals as goal

pub shift-requires-clause-placed : goal.shift-requires-clause-placed
unfolding tables
shift-requires-clause-placed g c =
    let t = tables c.args.self.now.books in
    let es = c.args.self.now.books.places.placed in
    let at = place_at t es refl refl refl c.requires.sound.placing c.args.f (Far c.args.rank) c.requires.may.0.only.here in
    subst IsSome (sym at) refl

pub shift-requires-clause-known : goal.shift-requires-clause-known
unfolding tables
shift-requires-clause-known g c =
    let ranks = c.requires.sound.slotted in
    let known = c.requires.known in
    and_from _ _ (lt-ltb c.args.rank c.args.self.now.books.places.ranks (omega arith)) (lt-ltb c.args.q 16 c.requires.may.0.slot)

pub shift-requires-clause-free : goal.shift-requires-clause-free
unfolding tables
shift-requires-clause-free g c = c.requires.may.0.empty

pub drop_half-requires : goal.drop_half-requires
unfolding tables
drop_half-requires g c = c.requires.counted.0

pub returns : goal.returns
unfolding tables
returns g c =
    let t = tables c.args.self.now.books in
    let es = c.args.self.now.books.places.placed in
    let r = c.args.rank in
    let f = c.args.f in
    let q = c.args.q in
    let placing = c.requires.sound.placing in
    let empty = c.requires.may.0.empty in
    let at = place_at t es refl refl refl placing f (Far r) c.requires.may.0.only.here in
    let moved = c.shift.ensures.places in
    let fewer = shrunk_at c.args.self.now.books.halves c.drop_half.new.self r c.drop_half.ensures c.requires.counted.0 in
    let slots = ap (λ (m : PlaceMap). slots_in m.placed) moved ∙ slots_settled es f r placing at q empty in
    let near = ap (λ (m : PlaceMap). near_in m.placed) moved ∙ near_settled es f r placing at q empty in
    let far = ap (λ (m : PlaceMap). far_in m.placed) moved ∙ far_settled es f r placing at q empty in
    did_settle _ _ r
    (record {
      store = refl;
      placing = c.shift.ensures.placing;
      slotted = ap (λ (m : PlaceMap). m.ranks) moved;
      capacity = ap (λ (m : PlaceMap). m.capacity) moved;
      sizes = fewer.1;
      parcels = refl;
      ranks = refl;
      letters = refl;
      paulis = refl;
    })
    f q c.requires (same_tables _ _ refl slots near far fewer.0 refl)
