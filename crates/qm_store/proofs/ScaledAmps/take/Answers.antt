use Rattle.std.proofs.Common.{arith}
use Rattle.qm_denot.proofs.TakeLaws.{size_taken, keeps_taken, does_taken}
use Rattle.qm_store.specs.Numerators.{items_of}
use Rattle.qm_store.proofs.ScaledAmps.take.Goals as goal

pub returns : goal.returns
returns c =
    let s = c.args.self.now in
    rw c.remove.ensures.items
    (does_taken s.live.items c.place_of-place.result c.args.w c.args.m s.exponent c.reduce.new.exponent (items_of s.numerators) (items_of c.take.new.self) (items_of c.reduce.new.self)
    s.kept s.size (rw c.deref.ensures.value at c.place_of-place.ensures.first) c.take.ensures.taken c.reduce.ensures.done s.capacity)

pub invariant_of-self : goal.invariant_of-self
invariant_of-self c =
    let s = c.args.self.now in
    let live = c.remove.ensures.items in
    let at = rw c.deref.ensures.value at c.place_of-place.ensures.first in
    let reduces = c.reduce.ensures.done in
    record {
      small = s.small;
      few = omega (arith, c.remove.ensures.len);
      live_room = omega (arith, c.remove.ensures.capacity, s.live_room);
      size = rw live
          (size_taken s.live.items c.place_of-place.result c.args.w c.args.m s.exponent c.reduce.new.exponent (items_of s.numerators) (items_of c.take.new.self) (items_of c.reduce.new.self)
          s.kept s.size at c.take.ensures.taken reduces);
      room = omega (arith, c.take.ensures.room, c.reduce.ensures.room, s.room);
      kept = rw live
          (keeps_taken s.live.items c.place_of-place.result c.args.w c.args.m s.exponent c.reduce.new.exponent (items_of s.numerators) (items_of c.take.new.self) (items_of c.reduce.new.self)
          s.kept s.size at c.take.ensures.taken reduces);
    }
