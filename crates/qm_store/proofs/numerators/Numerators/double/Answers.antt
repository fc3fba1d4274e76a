use Rattle.std.proofs.Common.{◌≤◌, ◌^◌, sym, subst, ◌∙◌, arith}
use Rattle.qm_zomega.specs.Range.{IsBelow}
use Rattle.qm_store.proofs.WidenLaws.{narrow_size, narrow_number}
use Rattle.qm_limits.specs.declared.TheConstants.{MOST_CAPACITY}
use Rattle.qm_store.proofs.numerators.Numerators.double.Goals as goal

pub double-requires-else-self-clause-small : goal.double-requires-else-self-clause-small
double-requires-else-self-clause-small c =
    let s = c.args.self.now in
    subst (λ n. n ≤ 2 ^ MOST_CAPACITY) (narrow_size s.wide.items s.is_wide s.narrow.items c.if-self.false) c.requires.small

pub double-requires-else-self-clause-room : goal.double-requires-else-self-clause-room
double-requires-else-self-clause-room c =
    let s = c.args.self.now in
    let size = narrow_size s.wide.items s.is_wide s.narrow.items c.if-self.false in
    omega (arith, size, c.requires.room, s.narrow_room)

pub invariant_of-self-else-self : goal.invariant_of-self-else-self
invariant_of-self-else-self c =
    let s = c.args.self.now in
    let size = narrow_size s.wide.items s.is_wide s.narrow.items c.if-self.false in
    record {
      few = omega (arith, size, c.requires.room, c.double-else-self.ensures.size);
      narrow_room = omega (arith, s.narrow_room, c.double-else-self.ensures.room);
      wide_room = s.wide_room;
      bits_fit = s.bits_fit;
      below = λ i. subst (IsBelow s.bits) (sym (c.double-else-self.ensures.numbers i)) (s.below i);
    }

pub returns-else-self-clause-size : goal.returns-else-self-clause-size
returns-else-self-clause-size c =
    let s = c.args.self.now in
    let old = narrow_size s.wide.items s.is_wide s.narrow.items c.if-self.false in
    let new = narrow_size s.wide.items s.is_wide c.double-else-self.new.numerators.items c.if-self.false in
    omega (arith, old, new, c.double-else-self.ensures.size)

pub returns-else-self-clause-numbers : goal.returns-else-self-clause-numbers
returns-else-self-clause-numbers c = λ k.
    let s = c.args.self.now in
    narrow_number s.wide.items s.is_wide c.double-else-self.new.numerators.items k c.if-self.false
    ∙ c.double-else-self.ensures.numbers k ∙ sym (narrow_number s.wide.items s.is_wide s.narrow.items k c.if-self.false)
