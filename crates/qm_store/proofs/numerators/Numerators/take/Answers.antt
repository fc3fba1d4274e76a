use Rattle.std.proofs.Common.{◌/◌, subst, arith}
use Rattle.qm_denot.specs.Places.{HasPlace}
use Rattle.qm_denot.specs.LettersByPlace.{take_at}
use Rattle.qm_kernels.specs.Narrow.{narrow_value}
use Rattle.qm_store.proofs.WidenLaws.{narrow_size, narrow_done}
use Rattle.qm_kernels.proofs.BelowLaws.{made_below}
use Rattle.qm_store.proofs.numerators.Numerators.take.Goals as goal

pub take_list-requires-else-self : goal.take_list-requires-else-self
take_list-requires-else-self c =
    let s = c.args.self.now in
    subst (λ n. HasPlace n c.args.place) (narrow_size s.wide.items s.is_wide s.narrow.items c.if-self.false) c.requires

pub invariant_of-self-else-self : goal.invariant_of-self-else-self
invariant_of-self-else-self c =
    let s = c.args.self.now in
    let taken = c.take_list-else-self.ensures.taken in
    record {
      few = omega (arith, s.few, taken.size);
      narrow_room = omega (arith, s.narrow_room, c.take_list-else-self.ensures.room);
      wide_room = s.wide_room;
      bits_fit = s.bits_fit;
      below = made_below narrow_value s.bits _ _ _ taken (λ i. s.below _);
    }

pub returns-else-self-clause-taken : goal.returns-else-self-clause-taken
returns-else-self-clause-taken c =
    let s = c.args.self.now in
    narrow_done s.wide.items (take_at c.args.place c.args.m) (λ n. n / 2) s.is_wide s.narrow.items c.take_list-else-self.new.numerators.items c.if-self.false c.take_list-else-self.ensures.taken
