use Rattle.std.proofs.Common.{◌*◌, sym, ◌∙◌, arith}
use Rattle.qm_zomega.specs.Numbers.{zero_number}
use Rattle.qm_denot.specs.LettersByPlace.{pair_at}
use Rattle.qm_kernels.specs.Narrow.{narrow_value}
use Rattle.qm_store.proofs.WidenLaws.{narrow_size, narrow_done}
use Rattle.qm_kernels.proofs.BelowLaws.{made_below, below-pair}
use Rattle.qm_store.proofs.numerators.Numerators.pair.Goals as goal

pub pair_list-requires-else-self-clause-size : goal.pair_list-requires-else-self-clause-size
pair_list-requires-else-self-clause-size c =
    let s = c.args.self.now in
    sym (narrow_size s.wide.items s.is_wide s.narrow.items c.if-self.false) ∙ c.requires.size

pub pair_list-requires-else-self-clause-room : goal.pair_list-requires-else-self-clause-room
pair_list-requires-else-self-clause-room c =
    let s = c.args.self.now in
    let size = narrow_size s.wide.items s.is_wide s.narrow.items c.if-self.false in
    omega (arith, size, c.requires.room, s.narrow_room)

pub invariant_of-self-else-self : goal.invariant_of-self-else-self
invariant_of-self-else-self c =
    let s = c.args.self.now in
    let size = narrow_size s.wide.items s.is_wide s.narrow.items c.if-self.false in
    let paired = c.pair_list-else-self.ensures.paired in
    record {
      few = omega (arith, size, c.requires.room, paired.size);
      narrow_room = omega (arith, s.narrow_room, c.pair_list-else-self.ensures.room);
      wide_room = s.wide_room;
      bits_fit = s.bits_fit;
      below = made_below narrow_value s.bits _ _ _ paired (below-pair s.bits _ s.below c.args.n);
    }

pub returns-else-self-clause-paired : goal.returns-else-self-clause-paired
returns-else-self-clause-paired c =
    let s = c.args.self.now in
    narrow_done s.wide.items (pair_at zero_number c.args.n) (λ n. n * 4) s.is_wide s.narrow.items c.pair_list-else-self.new.numerators.items c.if-self.false c.pair_list-else-self.ensures.paired
