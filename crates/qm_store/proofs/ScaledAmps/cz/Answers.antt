use Rattle.std.proofs.Common.{◌≡◌, length, refl, arith, ◌∙◌}
use Rattle.qm_zomega.specs.NumberLists.{number_at, IsListOf}
use Rattle.qm_denot.specs.declared.Letter.TheVariants.{Cz}
use Rattle.qm_denot.specs.Wires.{Wires}
use Rattle.qm_denot.specs.Circuits.{with_letter}
use Rattle.qm_denot.specs.LettersByPlace.{sign_at}
use Rattle.qm_denot.specs.ListStores.{listed_value}
use Rattle.qm_denot.proofs.KeepingLaws.{cz_value, cz_before, keeps_turned, does_turned}
use Rattle.qm_store.proofs.StoreLaws.{places_differ}
use Rattle.qm_store.specs.Numerators.{items_of}
use Rattle.qm_store.proofs.ScaledAmps.cz.Goals as goal
use Rattle.qm_store.proofs.ScaledAmps.cz.Goals.{After-sign}

pub sign-requires-clause-distinct : goal.sign-requires-clause-distinct
sign-requires-clause-distinct c =
    places_differ c.args.self.now.live.items c.place_of-one.result c.place_of-other.result c.args.c c.args.t (rw c.deref.ensures.value at c.place_of-one.ensures.first) (rw c.deref-2.ensures.value at c.place_of-other.ensures.first) c.requires.may.2

done : (c : After-sign) → IsListOf (items_of c.sign.new.self) (length (items_of c.args.self.now.numerators)) (sign_at c.place_of-one.result c.place_of-other.result (number_at (items_of c.args.self.now.numerators)))
done c = c.sign.ensures.done

-- the values after the letter
values : (c : After-sign) (x : Wires)
    → listed_value c.args.self.now.live.items (items_of c.sign.new.self) x ≡ with_letter (Cz c.args.c c.args.t) (listed_value c.args.self.now.live.items (items_of c.args.self.now.numerators)) x
values c =
    let s = c.args.self.now in
    cz_value s.live.items (items_of s.numerators) (items_of c.sign.new.self) s.kept.distinct s.size c.place_of-one.result c.place_of-other.result c.args.c c.args.t (rw c.deref.ensures.value at c.place_of-one.ensures.first) (rw c.deref-2.ensures.value at c.place_of-other.ensures.first) (done c)

pub invariant_of-self : goal.invariant_of-self
invariant_of-self c =
    let s = c.args.self.now in
    let at = (goal.at.invariant_of-self c).After-sign in
    let size = (done at).size ∙ s.size in
    record {
      small = s.small;
      few = s.few;
      live_room = s.live_room;
      size = size;
      room = omega (arith, s.room, c.sign.ensures.room);
      kept = (keeps_turned (Cz c.args.c c.args.t) s.live.items s.exponent (items_of s.numerators) (items_of c.sign.new.self) size s.kept (values at) (cz_before c.args.c c.args.t));
    }

pub returns : goal.returns
returns c =
    let s = c.args.self.now in
    let at = (goal.at.returns c).After-sign in
    (does_turned (Cz c.args.c c.args.t) s.live.items s.exponent (items_of s.numerators) (items_of c.sign.new.self) ((done at).size ∙ s.size) s.kept (values at) (cz_before c.args.c c.args.t) s.capacity (omega arith) refl)
