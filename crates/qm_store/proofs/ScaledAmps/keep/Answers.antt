use Rattle.std.proofs.Common.{◌≡◌, ◌+◌, length, refl, ◌∙◌, add-zero, arith}
use Rattle.qm_zomega.specs.Numbers.{zero_number}
use Rattle.qm_zomega.specs.NumberLists.{number_at, IsListOf, Reduces}
use Rattle.qm_denot.specs.declared.Letter.TheVariants.{Keep}
use Rattle.qm_denot.specs.Wires.{Wires}
use Rattle.qm_denot.specs.Circuits.{with_letter}
use Rattle.qm_denot.specs.LettersByPlace.{keep_at}
use Rattle.qm_denot.specs.ListStores.{listed_value}
use Rattle.qm_denot.proofs.KeepingLaws.{keep_value, keeps_reduced, does_reduced}
use Rattle.qm_store.specs.Numerators.{items_of}
use Rattle.qm_store.proofs.ScaledAmps.keep.Goals as goal
use Rattle.qm_store.proofs.ScaledAmps.keep.Goals.{After-keep, After-reduce}

done : (c : After-keep)
    → IsListOf (items_of c.keep.new.self) (length (items_of c.args.self.now.numerators)) (keep_at zero_number c.place_of-place.result c.args.m (number_at (items_of c.args.self.now.numerators)))
done c = c.keep.ensures.done

-- the values after the letter, before the division by root2
values : (c : After-keep) (x : Wires)
    → listed_value c.args.self.now.live.items (items_of c.keep.new.self) x ≡ with_letter (Keep c.args.w c.args.m) (listed_value c.args.self.now.live.items (items_of c.args.self.now.numerators)) x
values c =
    let s = c.args.self.now in
    keep_value s.live.items (items_of s.numerators) (items_of c.keep.new.self) s.kept.distinct s.size c.place_of-place.result c.args.w c.args.m
    (rw c.deref.ensures.value at c.place_of-place.ensures.first) (done c)

reduces : (c : After-reduce) → Reduces (items_of c.keep.new.self) (c.args.self.now.exponent + 0) (items_of c.reduce.new.self) c.reduce.new.exponent
reduces c = rw add-zero c.reduce.ensures.done

pub invariant_of-self : goal.invariant_of-self
invariant_of-self c =
    let s = c.args.self.now in
    let at = goal.at.invariant_of-self c in
    let all = reduces at.After-reduce in
    let size = (done at.After-keep).size ∙ s.size in
    record {
      small = s.small;
      few = s.few;
      live_room = s.live_room;
      size = (all.size ∙ size);
      room = omega (arith, s.room, c.keep.ensures.room, c.reduce.ensures.room);
      kept = (keeps_reduced (Keep c.args.w c.args.m) s.live.items s.exponent c.reduce.new.exponent (items_of s.numerators) (items_of c.keep.new.self) (items_of c.reduce.new.self)
          size s.kept (values at.After-keep) all);
    }

pub returns : goal.returns
returns c =
    let s = c.args.self.now in
    let at = goal.at.returns c in
    (does_reduced (Keep c.args.w c.args.m) s.live.items s.exponent c.reduce.new.exponent (items_of s.numerators) (items_of c.keep.new.self) (items_of c.reduce.new.self)
    ((done at.After-keep).size ∙ s.size) s.kept (values at.After-keep) (reduces at.After-reduce) s.capacity refl)
