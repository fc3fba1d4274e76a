use Rattle.std.proofs.Common.{◌≡◌, ◌+◌, refl, arith, ◌∙◌, add-zero}
use Rattle.std.specs.Vec.{with_items}
use Rattle.std.proofs.lemmas.List.{with_items_is}
use Rattle.qm_denot.specs.declared.Letter.TheVariants.{Keep}
use Rattle.qm_denot.specs.Wires.{Wires}
use Rattle.qm_denot.specs.Circuits.{with_letter}
use Rattle.qm_denot.specs.ListStores.{listed_value}
use Rattle.qm_zomega.specs.NumberLists.{Reduces}
use Rattle.qm_denot.proofs.PlaceBounds.{size_small, size_fits}
use Rattle.qm_denot.proofs.KeepingLaws.{keep_value, keeps_reduced, does_reduced}
use Rattle.qm_denot.proofs.plain.PlainAmps.keep.Goals as goal
use Rattle.qm_denot.proofs.plain.PlainAmps.keep.Goals.{After-rewrite, After-reduce-self}

pub rewrite-requires-clause-small : goal.rewrite-requires-clause-small
rewrite-requires-clause-small c = let s = c.args.self.now in size_small _ _ _ s.size s.few s.small

pub rewrite-requires-clause-room : goal.rewrite-requires-clause-room
rewrite-requires-clause-room c = let s = c.args.self.now in size_fits _ _ _ _ s.size s.few s.spare_room

-- the values after the letter, before the division by root2
values : (c : After-rewrite) (x : Wires)
    → listed_value c.args.self.now.live.items c.rewrite.new.numerators.items x ≡ with_letter (Keep c.args.w c.args.m) (listed_value c.args.self.now.live.items c.args.self.now.numerators.items) x
values c =
    let s = c.args.self.now in
    keep_value s.live.items s.numerators.items c.rewrite.new.numerators.items s.kept.distinct s.size c.place_of-place.result c.args.w c.args.m
    (rw c.deref.ensures.value at c.place_of-place.ensures.first) c.rewrite.ensures.rewritten

-- the vector that `reduce` left
reduced : (c : After-reduce-self) → (with_items c.rewrite.new.numerators c.reduce-self.new.numerators).items ≡ c.reduce-self.new.numerators
reduced c = with_items_is c.rewrite.new.numerators c.reduce-self.new.numerators (c.reduce-self.ensures.size ∙ c.deref_mut.ensures.len)

reduces : (c : After-reduce-self) → Reduces c.rewrite.new.numerators.items (c.args.self.now.exponent + 0) c.reduce-self.new.numerators c.reduce-self.result
reduces c = rw add-zero (rw c.deref_mut.ensures.value at c.reduce-self.ensures)

pub invariant_of-self : goal.invariant_of-self
invariant_of-self c =
    let s = c.args.self.now in
    let at = goal.at.invariant_of-self c in
    let is = reduced at.After-reduce-self in
    let all = reduces at.After-reduce-self in
    let size = c.rewrite.ensures.rewritten.size ∙ s.size in
    record {
      small = s.small;
      few = s.few;
      live_room = s.live_room;
      size = rw is (all.size ∙ size);
      room = omega (arith, c.rewrite.ensures.room, s.spare_room);
      spare_room = omega (arith, c.rewrite.ensures.spare_room, s.room);
      kept = rw is (keeps_reduced (Keep c.args.w c.args.m) s.live.items s.exponent c.reduce-self.result s.numerators.items c.rewrite.new.numerators.items c.reduce-self.new.numerators
          size s.kept (values at.After-rewrite) all);
    }

pub returns : goal.returns
returns c =
    let s = c.args.self.now in
    let at = goal.at.returns c in
    rw (reduced at.After-reduce-self)
    (does_reduced (Keep c.args.w c.args.m) s.live.items s.exponent c.reduce-self.result s.numerators.items c.rewrite.new.numerators.items c.reduce-self.new.numerators
    (c.rewrite.ensures.rewritten.size ∙ s.size) s.kept (values at.After-rewrite) (reduces at.After-reduce-self) s.capacity refl)
