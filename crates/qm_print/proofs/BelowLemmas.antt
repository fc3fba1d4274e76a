-- Texts for the numbers below a bound, one after the other
use Rattle.std.proofs.Common.{◌≡◌, ℕ, zero, suc, ◌+◌, ◌<◌, ◌⊎◌, inl, inr, List, ◌++◌, Option, refl, sym, ap, ◌∙◌, subst, arith, add-one}
use Rattle.qm_denot.specs.declared.Wire.{Wire}
use Rattle.qm_instr.specs.Programs.{Programs, rank_of}
use Rattle.qm_io.specs.Ends.{SinkView}
use Rattle.qm_print.specs.Below.{text_below}
use Rattle.qm_print.specs.Gathering.{Added, Stopped}
use Rattle.qm_print.specs.Slots.{slot_if, rank_slots, slots_below, slot_lines, slot_line}
use Rattle.qm_print.proofs.GatherLemmas.{Added-join, Stopped-next, Stopped-more, flat_map-append}

module _ (f : ℕ → List ℕ) (u v w : SinkView) (h i : List ℕ) (k : ℕ) where
  -- the texts of k numbers were added, and then that of one more
  pub Added-below : (j : List ℕ) → Added u v h i (text_below f k) → Added v w i j (f k) → Added u w h j (text_below f (k + 1))
  Added-below j s t = rw (add-one k) (Added-join u v w h i j _ _ s t)

  last_or_below : (n : ℕ) → k < suc n → (k ≡ n) ⊎ (k < n)
  last_or_below n h = grind arith

  -- and at that one the sink failed
  pub Stopped-below : (n : ℕ) → k < n → Added u v h i (text_below f k) → Stopped v w i (f k) → Stopped u w h (text_below f n)
  Stopped-below zero less s t = absurd (omega arith)
  Stopped-below (suc n) less s t = elim (last_or_below n less) [
    | inl last ↦ subst (λ m. Stopped u w h (text_below f (suc m))) last (Stopped-next u v w h i _ _ s t)
    | inr below ↦ Stopped-more u w h (text_below f n) (f n) (Stopped-below n below s t)
  ]

-- ---- the lines of full slots, slot by slot and rank by rank
pub rank_slots-lines : (r n : ℕ) (slots : ℕ → Option Wire) → text_below (λ q. slot_lines (slot_if r q (slots q))) n ≡ slot_lines (rank_slots r n slots)
rank_slots-lines r zero slots = refl
rank_slots-lines r (suc n) slots =
    ap (λ x. x ++ slot_lines (slot_if r n (slots n))) (rank_slots-lines r n slots) ∙ sym (flat_map-append slot_line (rank_slots r n slots) (slot_if r n (slots n)))

pub slots_below-lines : (p : Programs) (n : ℕ) (slots : ℕ → ℕ → Option Wire)
    → text_below (λ r. slot_lines (rank_slots r (rank_of p r).qubits (slots r))) n ≡ slot_lines (slots_below p n slots)
slots_below-lines p zero slots = refl
slots_below-lines p (suc n) slots =
    let more = rank_slots n (rank_of p n).qubits (slots n) in
    ap (λ x. x ++ slot_lines more) (slots_below-lines p n slots) ∙ sym (flat_map-append slot_line (slots_below p n slots) more)
