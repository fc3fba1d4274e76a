use Rattle.std.proofs.Common.{◌≡◌, length, ap, ◌∙◌, arith}
use Rattle.std.proofs.lemmas.List.{with_items_is}
use Rattle.qm_store.proofs.WidenLaws.{narrow_reduced}
use Rattle.qm_store.proofs.numerators.Numerators.reduce.Goals as goal

pub returns-else-self-clause-done : goal.returns-else-self-clause-done
returns-else-self-clause-done c =
    let s = c.args.self.now in
    let v = c.reduce-else-self.new.list in
    let made = with_items_is s.narrow v (c.reduce-else-self.ensures.done.size ∙ c.deref_mut-else-self.ensures.len) in
    rw made (narrow_reduced s.wide.items s.is_wide s.narrow.items v _ _ c.if-self.false (rw c.deref_mut-else-self.ensures.value at c.reduce-else-self.ensures.done))

pub invariant_of-self-else-self : goal.invariant_of-self-else-self
invariant_of-self-else-self c =
    let s = c.args.self.now in
    let v = c.reduce-else-self.new.list in
    let made = with_items_is s.narrow v (c.reduce-else-self.ensures.done.size ∙ c.deref_mut-else-self.ensures.len) in
    let size : length v ≡ length s.narrow.items = c.reduce-else-self.ensures.done.size ∙ ap length c.deref_mut-else-self.ensures.value in
    record {
      few = rw made (omega (arith, s.few, size));
      narrow_room = s.narrow_room;
      wide_room = s.wide_room;
      bits_fit = s.bits_fit;
      below = rw made (c.reduce-else-self.ensures.below s.bits (rw c.deref_mut-else-self.ensures.value s.below));
    }
