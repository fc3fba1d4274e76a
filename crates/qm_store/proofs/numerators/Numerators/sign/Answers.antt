use Rattle.std.proofs.Common.{◌≡◌, length, subst, ap, ◌∙◌, arith}
use Rattle.std.proofs.lemmas.List.{with_items_is}
use Rattle.qm_denot.specs.Places.{HasPlace}
use Rattle.qm_denot.specs.LettersByPlace.{sign_at}
use Rattle.qm_store.proofs.WidenLaws.{narrow_size, narrow_done}
use Rattle.qm_store.proofs.numerators.Numerators.sign.Goals as goal

pub sign-requires-else-self-clause-one : goal.sign-requires-else-self-clause-one
sign-requires-else-self-clause-one c =
    let s = c.args.self.now in
    rw c.deref_mut-else-self.ensures.value (subst (λ n. HasPlace n c.args.one) (narrow_size s.wide.items s.is_wide s.narrow.items c.if-self.false) c.requires.one)

pub sign-requires-else-self-clause-other : goal.sign-requires-else-self-clause-other
sign-requires-else-self-clause-other c =
    let s = c.args.self.now in
    rw c.deref_mut-else-self.ensures.value (subst (λ n. HasPlace n c.args.other) (narrow_size s.wide.items s.is_wide s.narrow.items c.if-self.false) c.requires.other)

pub returns-else-self-clause-done : goal.returns-else-self-clause-done
returns-else-self-clause-done c =
    let s = c.args.self.now in
    let v = c.sign-else-self.new.list in
    let made = with_items_is s.narrow v (c.sign-else-self.ensures.done.size ∙ c.deref_mut-else-self.ensures.len) in
    rw made (narrow_done s.wide.items (sign_at c.args.one c.args.other) (λ n. n) s.is_wide s.narrow.items v c.if-self.false (rw c.deref_mut-else-self.ensures.value at c.sign-else-self.ensures.done))

pub invariant_of-self-else-self : goal.invariant_of-self-else-self
invariant_of-self-else-self c =
    let s = c.args.self.now in
    let v = c.sign-else-self.new.list in
    let made = with_items_is s.narrow v (c.sign-else-self.ensures.done.size ∙ c.deref_mut-else-self.ensures.len) in
    let size : length v ≡ length s.narrow.items = c.sign-else-self.ensures.done.size ∙ ap length c.deref_mut-else-self.ensures.value in
    record {
      few = rw made (omega (arith, s.few, size));
      narrow_room = s.narrow_room;
      wide_room = s.wide_room;
      bits_fit = s.bits_fit;
      below = rw made (c.sign-else-self.ensures.below s.bits (rw c.deref_mut-else-self.ensures.value s.below));
    }
