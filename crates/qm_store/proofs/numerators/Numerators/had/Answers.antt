use Rattle.std.proofs.Common.{◌≡◌, ℕ, length, refl, sym, subst, ap, ◌∙◌, arith}
use Rattle.std.proofs.lemmas.List.{with_items_is}
use Rattle.qm_zomega.specs.NumberLists.{meant_at, number_at}
use Rattle.qm_denot.specs.Places.{HasPlace}
use Rattle.qm_kernels.specs.Narrow.{narrow_value}
use Rattle.qm_store.specs.Numerators.{items_of}
use Rattle.qm_store.proofs.WidenLaws.{narrow_size, narrow_number, narrow_had, had_in_range, bound_after}
use Rattle.qm_store.proofs.numerators.Numerators.had.Goals as goal

pub had_reduced-requires-clause-place : goal.had_reduced-requires-clause-place
had_reduced-requires-clause-place c =
    let t = c.make_fit.new.self in
    rw c.deref_mut.ensures.value (subst (λ n. HasPlace n c.args.place) (sym c.make_fit.ensures.size ∙ narrow_size t.wide.items t.is_wide t.narrow.items c.if-not-self.true) c.requires.place)

pub had_reduced-requires-clause-fits : goal.had_reduced-requires-clause-fits
had_reduced-requires-clause-fits c = rw c.deref_mut.ensures.value (c.make_fit.ensures.fits c.if-not-self.true)

pub invariant_of-self : goal.invariant_of-self
invariant_of-self c =
    let t = c.make_fit.new.self in
    let v = c.had_reduced.new.list in
    let made = with_items_is t.narrow v (c.had_reduced.ensures.done.size ∙ c.deref_mut.ensures.len) in
    let size : length v ≡ length t.narrow.items = c.had_reduced.ensures.done.size ∙ ap length c.deref_mut.ensures.value in
    record {
      few = rw made (omega (arith, t.few, size));
      narrow_room = t.narrow_room;
      wide_room = t.wide_room;
      bits_fit = c.doubled-self.ensures.most;
      below = rw made (bound_after t.bits c.doubled-self.result v t.bits_fit c.doubled-self.ensures.more c.doubled-self.ensures.end
          (c.had_reduced.ensures.below t.bits (rw c.deref_mut.ensures.value t.below)));
    }

pub returns-then-not-self-clause-done : goal.returns-then-not-self-clause-done
returns-then-not-self-clause-done c = λ _.
    let s = c.args.self.now in
    let t = c.make_fit.new.self in
    let v = c.had_reduced.new.list in
    let narrow = c.if-not-self.true in
    let made = with_items_is t.narrow v (c.had_reduced.ensures.done.size ∙ c.deref_mut.ensures.len) in
    let numbers : (k : ℕ) → number_at (items_of s) k ≡ meant_at narrow_value t.narrow.items k =
    λ k. sym (c.make_fit.ensures.numbers k) ∙ narrow_number t.wide.items t.is_wide t.narrow.items k narrow in
    rw made (narrow_had c.args.place (items_of s) t.wide.items t.is_wide t.narrow.items v c.args.exponent.now c.had_reduced.new.exponent narrow
    (sym c.make_fit.ensures.size ∙ narrow_size t.wide.items t.is_wide t.narrow.items narrow) numbers
    (had_in_range (meant_at narrow_value t.narrow.items) (number_at (items_of s)) c.args.place t.bits t.bits_fit t.below numbers)
    (rw c.deref_mut.ensures.value at c.had_reduced.ensures.done))

pub returns-then-not-self-clause-fits : goal.returns-then-not-self-clause-fits
returns-then-not-self-clause-fits c =
    let s = c.args.self.now in
    let t = c.make_fit.new.self in (
      (λ _ i h.
          had_in_range (meant_at narrow_value t.narrow.items) (number_at (items_of s)) c.args.place t.bits t.bits_fit t.below
          (λ k. sym (c.make_fit.ensures.numbers k) ∙ narrow_number t.wide.items t.is_wide t.narrow.items k c.if-not-self.true) i),
      (λ _. refl),
    )

pub returns-then-not-self-clause-size : goal.returns-then-not-self-clause-size
returns-then-not-self-clause-size c =
    let s = c.args.self.now in
    let t = c.make_fit.new.self in
    let v = c.had_reduced.new.list in
    let made = with_items_is t.narrow v (c.had_reduced.ensures.done.size ∙ c.deref_mut.ensures.len) in
    rw made (narrow_size t.wide.items t.is_wide v c.if-not-self.true ∙ c.had_reduced.ensures.done.size ∙ ap length c.deref_mut.ensures.value
    ∙ sym (narrow_size t.wide.items t.is_wide t.narrow.items c.if-not-self.true) ∙ c.make_fit.ensures.size)
