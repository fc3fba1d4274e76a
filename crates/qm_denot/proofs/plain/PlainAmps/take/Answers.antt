use Rattle.std.proofs.Common.{◌≡◌, arith, ◌∙◌}
use Rattle.std.specs.Vec.{with_items}
use Rattle.std.proofs.lemmas.List.{with_items_is}
use Rattle.qm_denot.proofs.PlaceBounds.{size_small, size_fits}
use Rattle.qm_denot.proofs.TakeLaws.{size_taken, keeps_taken, does_taken}
use Rattle.qm_denot.proofs.plain.PlainAmps.take.Goals as goal
use Rattle.qm_denot.proofs.plain.PlainAmps.take.Goals.{After-reduce-self}

pub rewrite-requires-clause-small : goal.rewrite-requires-clause-small
rewrite-requires-clause-small c = let s = c.args.self.now in size_small _ _ _ s.size s.few s.small

pub rewrite-requires-clause-room : goal.rewrite-requires-clause-room
rewrite-requires-clause-room c = let s = c.args.self.now in omega (arith, size_fits _ _ _ _ s.size s.few s.spare_room)

-- the vector that `reduce` left
reduced : (c : After-reduce-self) → (with_items c.rewrite.new.numerators c.reduce-self.new.numerators).items ≡ c.reduce-self.new.numerators
reduced c = with_items_is c.rewrite.new.numerators c.reduce-self.new.numerators (c.reduce-self.ensures.size ∙ c.deref_mut.ensures.len)

pub returns : goal.returns
returns c =
    let s = c.args.self.now in
    let is = reduced (goal.at.returns c).After-reduce-self in
    rw (is, c.remove.ensures.items)
    (does_taken s.live.items c.place_of-place.result c.args.w c.args.m s.exponent c.reduce-self.result s.numerators.items c.rewrite.new.numerators.items c.reduce-self.new.numerators
    s.kept s.size (rw c.deref.ensures.value at c.place_of-place.ensures.first) c.rewrite.ensures.rewritten (rw c.deref_mut.ensures.value at c.reduce-self.ensures) s.capacity)

pub invariant_of-self : goal.invariant_of-self
invariant_of-self c =
    let s = c.args.self.now in
    let is = reduced (goal.at.invariant_of-self c).After-reduce-self in
    let live = c.remove.ensures.items in
    let at = rw c.deref.ensures.value at c.place_of-place.ensures.first in
    let reduces = rw c.deref_mut.ensures.value at c.reduce-self.ensures in
    record {
      small = s.small;
      few = omega (arith, c.remove.ensures.len);
      live_room = omega (arith, c.remove.ensures.capacity, s.live_room);
      size = rw (is, live)
          (size_taken s.live.items c.place_of-place.result c.args.w c.args.m s.exponent c.reduce-self.result s.numerators.items c.rewrite.new.numerators.items c.reduce-self.new.numerators
          s.kept s.size at c.rewrite.ensures.rewritten reduces);
      room = omega (arith, c.rewrite.ensures.room, s.spare_room);
      spare_room = omega (arith, c.rewrite.ensures.spare_room, s.room);
      kept = rw (is, live)
          (keeps_taken s.live.items c.place_of-place.result c.args.w c.args.m s.exponent c.reduce-self.result s.numerators.items c.rewrite.new.numerators.items c.reduce-self.new.numerators
          s.kept s.size at c.rewrite.ensures.rewritten reduces);
    }
