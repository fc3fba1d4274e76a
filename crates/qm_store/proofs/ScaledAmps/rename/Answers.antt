use Rattle.std.proofs.Common.{◌^◌, arith, ap, sym, ◌∙◌, length-set}
use Rattle.qm_denot.proofs.RenameLaws.{keeps_renamed, does_renamed}
use Rattle.qm_store.specs.Numerators.{items_of}
use Rattle.qm_store.proofs.ScaledAmps.rename.Goals as goal

pub returns : goal.returns
returns c =
    let s = c.args.self.now in
    does_renamed s.live.items c.place_of-place.result c.args.a c.args.b s.exponent (items_of s.numerators) s.kept s.size
    (rw c.deref.ensures.value at c.place_of-place.ensures.first) c.requires.may.0 c.requires.may.1 s.capacity

pub invariant_of-self : goal.invariant_of-self
invariant_of-self c =
    let s = c.args.self.now in
    let same = length-set s.live.items c.place_of-place.result c.args.b in
    record {
      small = s.small;
      few = omega arith;
      live_room = s.live_room;
      size = s.size ∙ ap (λ n. 2 ^ n) (sym same);
      room = s.room;
      kept = keeps_renamed s.live.items c.place_of-place.result c.args.a c.args.b s.exponent (items_of s.numerators) s.kept s.size
          (rw c.deref.ensures.value at c.place_of-place.ensures.first) c.requires.may.0 c.requires.may.1;
    }
