-- What moves entries moves the numbers that they stand for
use Rattle.std.proofs.Common.{◌≡◌, ℕ, ◌+◌, ◌*◌, ◌<◌, ◌≤◌, ◌^◌, Bool, true, false, cond, inl, inr, List, length, refl, sym, ap, ◌∙◌, arith}
use Rattle.std.proofs.lemmas.Bool.{cases_lt}
use Rattle.qm_zomega.specs.Numbers.{Number, zero_number}
use Rattle.qm_zomega.specs.NumberLists.{seen_at, meant_at}
use Rattle.qm_zomega.proofs.SeenLaws.{seen-past}
use Rattle.qm_denot.specs.Circuits.{same_bit}
use Rattle.qm_denot.specs.Places.{has_place}
use Rattle.qm_denot.specs.LettersByPlace.{flip_at, cross_at, keep_at, take_at, pair_at}
use Rattle.qm_kernels.specs.Done.{IsMoved, IsComputed}
use Rattle.qm_kernels.specs.DoneLaws.{done_seen, seen-through}
use Rattle.qm_kernels.proofs.SizeLaws.{pair_done, quarter}

chosen : {A B : Type 0} (see : A → B) (b : Bool) (y z : A) → see (cond b y z) ≡ cond b (see y) (see z)
chosen see true y z = refl
chosen see false y z = refl

-- o is an entry that stands for zero
module _ {A : Type 0} (meaning : A → Number) (o : A) (is : meaning o ≡ zero_number) (old new : List A) where
  pub flip_meant : (p : ℕ) → IsMoved (flip_at p) old new → IsComputed meaning (flip_at p) old new
  flip_meant p moved = done_seen meaning zero_number o is (flip_at p) (flip_at p) (λ f i. refl) old new (moved o)

  pub cross_meant : (c t : ℕ) → IsMoved (cross_at c t) old new → IsComputed meaning (cross_at c t) old new
  cross_meant c t moved =
      done_seen meaning zero_number o is (cross_at c t) (cross_at c t) (λ f i. chosen meaning (has_place c i) (flip_at t f i) (f i)) old new (moved o)

  pub keep_meant : (z : A) → meaning z ≡ zero_number → (p : ℕ) (m : Bool) → IsMoved (keep_at z p m) old new → IsComputed meaning (keep_at zero_number p m) old new
  keep_meant z e p m moved =
      done_seen meaning zero_number o is (keep_at z p m) (keep_at zero_number p m)
      (λ f i. chosen meaning (same_bit (has_place p i) m) (f i) z ∙ ap (cond (same_bit (has_place p i) m) (meaning (f i))) e) old new (moved o)

  pub take_meant : (p : ℕ) (m : Bool) (n : ℕ)
      → ((past : A) (i : ℕ) → i < n → seen_at (λ x. x) past new i ≡ take_at p m (seen_at (λ x. x) past old) i)
      → (i : ℕ) → i < n → meant_at meaning new i ≡ take_at p m (meant_at meaning old) i
  take_meant p m n moved i h =
      sym (seen-through meaning zero_number o is new i) ∙ ap meaning (moved o i h)
      ∙ seen-through meaning zero_number o is old _

  pub rest_meant : (z : A) → meaning z ≡ zero_number → (n : ℕ) → length new ≡ length old
      → ((past : A) (i : ℕ) → n ≤ i → i < length old → seen_at (λ x. x) past new i ≡ z) → (i : ℕ) → n ≤ i → meant_at meaning new i ≡ zero_number
  rest_meant z e n size moved i h = elim (cases_lt i (length old)) [
    | inl lt ↦ sym (seen-through meaning zero_number o is new i) ∙ ap meaning (moved o i h lt) ∙ e
    | inr le ↦ seen-past meaning zero_number new i (omega arith)
  ]

  pub pair_meant : (n : ℕ) → length old ≡ 2 ^ (n + 2) → length new ≡ length old
      → ((past : A) (i : ℕ) → i < 3 * 2 ^ n → seen_at (λ x. x) past new i ≡ seen_at (λ x. x) past old i)
      → ((past : A) (i : ℕ) → i < 2 ^ n → seen_at (λ x. x) past new (3 * 2 ^ n + i) ≡ seen_at (λ x. x) past old i)
      → ((i : ℕ) → 2 ^ n ≤ i → meant_at meaning old i ≡ zero_number) → IsComputed meaning (pair_at zero_number n) old new
  pair_meant n quarters size kept copied zeros =
      let q = quarter n (length old) quarters in
      record {
        size = size;
        numbers = λ i h. pair_done zero_number n (meant_at meaning old) (meant_at meaning new)
            (λ j l. sym (seen-through meaning zero_number o is new j) ∙ ap meaning (kept o j l) ∙ seen-through meaning zero_number o is old j)
            (λ r l. sym (seen-through meaning zero_number o is new _) ∙ ap meaning (copied o r l) ∙ seen-through meaning zero_number o is old r)
            zeros i (omega (arith, h));
      }
