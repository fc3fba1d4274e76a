use Rattle.std.proofs.Common.{◌≡◌, length, refl, arith, ◌∙◌}
use Rattle.qm_zomega.specs.NumberLists.{number_at, IsListOf}
use Rattle.qm_denot.specs.declared.Letter.TheVariants.{Flip}
use Rattle.qm_denot.specs.Wires.{Wires}
use Rattle.qm_denot.specs.Circuits.{with_letter}
use Rattle.qm_denot.specs.LettersByPlace.{flip_at}
use Rattle.qm_denot.specs.ListStores.{listed_value}
use Rattle.qm_denot.proofs.KeepingLaws.{flip_value, flip_before, keeps_turned, does_turned}
use Rattle.qm_store.specs.Numerators.{items_of}
use Rattle.qm_store.proofs.ScaledAmps.flip.Goals as goal
use Rattle.qm_store.proofs.ScaledAmps.flip.Goals.{After-flip}

done : (c : After-flip) → IsListOf (items_of c.flip.new.self) (length (items_of c.args.self.now.numerators)) (flip_at c.place_of-place.result (number_at (items_of c.args.self.now.numerators)))
done c = c.flip.ensures.done

-- the values after the letter
values : (c : After-flip) (x : Wires)
    → listed_value c.args.self.now.live.items (items_of c.flip.new.self) x ≡ with_letter (Flip c.args.w) (listed_value c.args.self.now.live.items (items_of c.args.self.now.numerators)) x
values c =
    let s = c.args.self.now in
    flip_value s.live.items (items_of s.numerators) (items_of c.flip.new.self) s.kept.distinct s.size c.place_of-place.result c.args.w (rw c.deref.ensures.value at c.place_of-place.ensures.first) (done c)

pub invariant_of-self : goal.invariant_of-self
invariant_of-self c =
    let s = c.args.self.now in
    let at = (goal.at.invariant_of-self c).After-flip in
    let size = (done at).size ∙ s.size in
    record {
      small = s.small;
      few = s.few;
      live_room = s.live_room;
      size = size;
      room = omega (arith, s.room, c.flip.ensures.room);
      kept = (keeps_turned (Flip c.args.w) s.live.items s.exponent (items_of s.numerators) (items_of c.flip.new.self) size s.kept (values at) (flip_before c.args.w));
    }

pub returns : goal.returns
returns c =
    let s = c.args.self.now in
    let at = (goal.at.returns c).After-flip in
    (does_turned (Flip c.args.w) s.live.items s.exponent (items_of s.numerators) (items_of c.flip.new.self) ((done at).size ∙ s.size) s.kept (values at) (flip_before c.args.w) s.capacity (omega arith) refl)
