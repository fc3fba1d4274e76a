use Rattle.std.proofs.Common.{◌≡◌, length, refl, arith, ◌∙◌}
use Rattle.qm_zomega.specs.NumberLists.{number_at, IsListOf}
use Rattle.qm_denot.specs.declared.Letter.TheVariants.{Cx}
use Rattle.qm_denot.specs.Wires.{Wires}
use Rattle.qm_denot.specs.Circuits.{with_letter}
use Rattle.qm_denot.specs.LettersByPlace.{cross_at}
use Rattle.qm_denot.specs.ListStores.{listed_value}
use Rattle.qm_denot.proofs.KeepingLaws.{cx_value, cx_before, keeps_turned, does_turned}
use Rattle.qm_store.proofs.StoreLaws.{places_differ}
use Rattle.qm_store.specs.Numerators.{items_of}
use Rattle.qm_store.proofs.ScaledAmps.cx.Goals as goal
use Rattle.qm_store.proofs.ScaledAmps.cx.Goals.{After-cross}

pub cross-requires-clause-distinct : goal.cross-requires-clause-distinct
cross-requires-clause-distinct c =
    places_differ c.args.self.now.live.items c.place_of-control.result c.place_of-target.result c.args.c c.args.t (rw c.deref.ensures.value at c.place_of-control.ensures.first) (rw c.deref-2.ensures.value at c.place_of-target.ensures.first) c.requires.may.2

done : (c : After-cross) → IsListOf (items_of c.cross.new.self) (length (items_of c.args.self.now.numerators)) (cross_at c.place_of-control.result c.place_of-target.result (number_at (items_of c.args.self.now.numerators)))
done c = c.cross.ensures.done

-- the values after the letter
values : (c : After-cross) (x : Wires)
    → listed_value c.args.self.now.live.items (items_of c.cross.new.self) x ≡ with_letter (Cx c.args.c c.args.t) (listed_value c.args.self.now.live.items (items_of c.args.self.now.numerators)) x
values c =
    let s = c.args.self.now in
    cx_value s.live.items (items_of s.numerators) (items_of c.cross.new.self) s.kept.distinct s.size c.place_of-control.result c.place_of-target.result c.args.c c.args.t (rw c.deref.ensures.value at c.place_of-control.ensures.first) (rw c.deref-2.ensures.value at c.place_of-target.ensures.first) (done c)

pub invariant_of-self : goal.invariant_of-self
invariant_of-self c =
    let s = c.args.self.now in
    let at = (goal.at.invariant_of-self c).After-cross in
    let size = (done at).size ∙ s.size in
    record {
      small = s.small;
      few = s.few;
      live_room = s.live_room;
      size = size;
      room = omega (arith, s.room, c.cross.ensures.room);
      kept = (keeps_turned (Cx c.args.c c.args.t) s.live.items s.exponent (items_of s.numerators) (items_of c.cross.new.self) size s.kept (values at) (cx_before c.args.c c.args.t c.requires.may.2));
    }

pub returns : goal.returns
returns c =
    let s = c.args.self.now in
    let at = (goal.at.returns c).After-cross in
    (does_turned (Cx c.args.c c.args.t) s.live.items s.exponent (items_of s.numerators) (items_of c.cross.new.self) ((done at).size ∙ s.size) s.kept (values at) (cx_before c.args.c c.args.t c.requires.may.2) s.capacity (omega arith) refl)
