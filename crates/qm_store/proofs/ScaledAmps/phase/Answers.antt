use Rattle.std.proofs.Common.{◌≡◌, length, refl, arith, ◌∙◌}
use Rattle.qm_zomega.specs.NumberLists.{number_at, IsListOf}
use Rattle.qm_denot.specs.declared.Letter.TheVariants.{Phase}
use Rattle.qm_denot.specs.Wires.{Wires}
use Rattle.qm_denot.specs.Circuits.{with_letter}
use Rattle.qm_denot.specs.LettersByPlace.{phase_at}
use Rattle.qm_denot.specs.ListStores.{listed_value}
use Rattle.qm_denot.proofs.KeepingLaws.{phase_value, phase_before, keeps_turned, does_turned}
use Rattle.qm_store.specs.Numerators.{items_of}
use Rattle.qm_store.proofs.ScaledAmps.phase.Goals as goal
use Rattle.qm_store.proofs.ScaledAmps.phase.Goals.{After-phase}

done : (c : After-phase) → IsListOf (items_of c.phase.new.self) (length (items_of c.args.self.now.numerators)) (phase_at c.args.k c.place_of-place.result (number_at (items_of c.args.self.now.numerators)))
done c = c.phase.ensures.done

-- the values after the letter
values : (c : After-phase) (x : Wires)
    → listed_value c.args.self.now.live.items (items_of c.phase.new.self) x ≡ with_letter (Phase c.args.k c.args.w) (listed_value c.args.self.now.live.items (items_of c.args.self.now.numerators)) x
values c =
    let s = c.args.self.now in
    phase_value s.live.items (items_of s.numerators) (items_of c.phase.new.self) s.kept.distinct s.size c.args.k c.place_of-place.result c.args.w (rw c.deref.ensures.value at c.place_of-place.ensures.first) (done c)

pub invariant_of-self : goal.invariant_of-self
invariant_of-self c =
    let s = c.args.self.now in
    let at = (goal.at.invariant_of-self c).After-phase in
    let size = (done at).size ∙ s.size in
    record {
      small = s.small;
      few = s.few;
      live_room = s.live_room;
      size = size;
      room = omega (arith, s.room, c.phase.ensures.room);
      kept = (keeps_turned (Phase c.args.k c.args.w) s.live.items s.exponent (items_of s.numerators) (items_of c.phase.new.self) size s.kept (values at) (phase_before c.args.k c.args.w));
    }

pub returns : goal.returns
returns c =
    let s = c.args.self.now in
    let at = (goal.at.returns c).After-phase in
    (does_turned (Phase c.args.k c.args.w) s.live.items s.exponent (items_of s.numerators) (items_of c.phase.new.self) ((done at).size ∙ s.size) s.kept (values at) (phase_before c.args.k c.args.w) s.capacity (omega arith) refl)
