use Rattle.std.proofs.Common.{◌≡◌, length, subst, ap, ◌∙◌, arith}
use Rattle.std.proofs.lemmas.List.{with_items_is}
use Rattle.qm_denot.specs.Places.{HasPlace}
use Rattle.qm_denot.specs.LettersByPlace.{cross_at}
use Rattle.qm_store.proofs.WidenLaws.{narrow_size, narrow_done}
use Rattle.qm_store.proofs.numerators.Numerators.cross.Goals as goal

pub cross-requires-else-self-clause-control : goal.cross-requires-else-self-clause-control
cross-requires-else-self-clause-control c =
    let s = c.args.self.now in
    rw c.deref_mut-else-self.ensures.value (subst (λ n. HasPlace n c.args.control) (narrow_size s.wide.items s.is_wide s.narrow.items c.if-self.false) c.requires.control)

pub cross-requires-else-self-clause-target : goal.cross-requires-else-self-clause-target
cross-requires-else-self-clause-target c =
    let s = c.args.self.now in
    rw c.deref_mut-else-self.ensures.value (subst (λ n. HasPlace n c.args.target) (narrow_size s.wide.items s.is_wide s.narrow.items c.if-self.false) c.requires.target)

pub returns-else-self-clause-done : goal.returns-else-self-clause-done
returns-else-self-clause-done c =
    let s = c.args.self.now in
    let v = c.cross-else-self.new.list in
    let made = with_items_is s.narrow v (c.cross-else-self.ensures.done.size ∙ c.deref_mut-else-self.ensures.len) in
    rw made (narrow_done s.wide.items (cross_at c.args.control c.args.target) (λ n. n) s.is_wide s.narrow.items v c.if-self.false (rw c.deref_mut-else-self.ensures.value at c.cross-else-self.ensures.done))

pub invariant_of-self-else-self : goal.invariant_of-self-else-self
invariant_of-self-else-self c =
    let s = c.args.self.now in
    let v = c.cross-else-self.new.list in
    let made = with_items_is s.narrow v (c.cross-else-self.ensures.done.size ∙ c.deref_mut-else-self.ensures.len) in
    let size : length v ≡ length s.narrow.items = c.cross-else-self.ensures.done.size ∙ ap length c.deref_mut-else-self.ensures.value in
    record {
      few = rw made (omega (arith, s.few, size));
      narrow_room = s.narrow_room;
      wide_room = s.wide_room;
      bits_fit = s.bits_fit;
      below = rw made (c.cross-else-self.ensures.below s.bits (rw c.deref_mut-else-self.ensures.value s.below));
    }
