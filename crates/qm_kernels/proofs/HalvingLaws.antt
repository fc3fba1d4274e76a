-- Sums and differences that root2 divides, and `Had` with its results divided
use Rattle.std.proofs.Common.{◌≡◌, ℕ, ◌+◌, ◌<◌, ◌^◌, cond, true, false, List, ◌++◌, length, length-append, sym, ap, ap₂, subst, ◌∙◌, arith}
use Rattle.std.proofs.lemmas.Int.{ints}
use Rattle.qm_zomega.specs.Numbers.{Number, zero_number, ◌⊕◌, ◌⊖◌, plus, minus, root2_of, IsDivisible}
use Rattle.qm_zomega.specs.NumberLists.{meant_at, IsListBy}
use Rattle.qm_zomega.proofs.Laws.Ring.{same}
use Rattle.qm_zomega.proofs.Laws.Powers.{root2-root2}
use Rattle.qm_zomega.proofs.Laws.Divisible.{IsDivisible-minus}
use Rattle.qm_denot.specs.Places.{set_place}
use Rattle.qm_denot.specs.LettersByPlace.{had_at}
use Rattle.qm_kernels.specs.Done.{IsComputed}
use Rattle.qm_kernels.specs.IndexLaws.{low_bit, high_bit, low_raised, high_lowered}
use Rattle.qm_kernels.specs.DoneLaws.{seen-front, seen-back, listed_parts}
use Rattle.qm_kernels.specs.Halved.{half_of, halved_had}

twice_divisible : (z : Number) → IsDivisible (z ⊕ z)
twice_divisible z = (root2_of z, root2-root2 z)

less_twice : (z w : Number) → (z ⊕ w) ⊖ (w ⊕ w) ≡ z ⊖ w
unfolding plus minus
less_twice z w = same _ _ (omega (arith, ints)) (omega (arith, ints)) (omega (arith, ints)) (omega (arith, ints))

-- where root2 divides the sum it divides the difference
pub difference_too : (z w : Number) → IsDivisible (z ⊕ w) → IsDivisible (z ⊖ w)
difference_too z w d = subst IsDivisible (less_twice z w) (IsDivisible-minus (z ⊕ w) (w ⊕ w) d (twice_divisible w))

module _ {A : Type 0} (meaning : A → Number) (p : ℕ) (low high low2 high2 : List A)
    (low_half : length low ≡ 2 ^ p) (high_half : length high ≡ 2 ^ p) where
  abbrev whole : ℕ → Number
  whole = meant_at meaning (low ++ high)

  at_low : (i : ℕ) → i < 2 ^ p → whole i ≡ meant_at meaning low i
  at_low i h = seen-front meaning zero_number low high i (omega arith)

  at_high : (r : ℕ) → whole (2 ^ p + r) ≡ meant_at meaning high r
  at_high r = seen-back meaning zero_number low high (2 ^ p) r low_half

  sum_at : (i : ℕ) → i < 2 ^ p → meant_at meaning low i ⊕ meant_at meaning high i ≡ had_at p whole i
  sum_at i h =
      ap₂ (λ y z. y ⊕ z) (sym (at_low i h)) (sym (at_high i) ∙ ap whole (sym (low_raised p i h)))
      ∙ ap (λ b. cond b (whole (set_place p false i) ⊖ whole i) (whole i ⊕ whole (set_place p true i))) (sym (low_bit p i h))

  difference_at : (r : ℕ) → r < 2 ^ p → meant_at meaning low r ⊖ meant_at meaning high r ≡ had_at p whole (2 ^ p + r)
  difference_at r h =
      let k = 2 ^ p + r in
      ap₂ (λ y z. y ⊖ z) (sym (at_low r h) ∙ ap whole (sym (high_lowered p r h))) (sym (at_high r))
      ∙ ap (λ b. cond b (whole (set_place p false k) ⊖ whole k) (whole k ⊕ whole (set_place p true k))) (sym (high_bit p r h))

  pub halved_mix_done : IsListBy meaning zero_number low2 (length low) (λ i. half_of (meant_at meaning low i ⊕ meant_at meaning high i))
      → IsListBy meaning zero_number high2 (length low) (λ i. half_of (meant_at meaning low i ⊖ meant_at meaning high i))
      → IsComputed meaning (halved_had p) (low ++ high) (low2 ++ high2)
  halved_mix_done sums differences =
      let sum : length (low ++ high) ≡ 2 ^ p + 2 ^ p = omega (arith, length-append low high) in
      rw sum (listed_parts meaning zero_number low2 high2 (2 ^ p) (2 ^ p) (halved_had p whole) (sums.size ∙ low_half) (differences.size ∙ low_half)
      (λ i h. sums.numbers i (omega arith) ∙ ap half_of (sum_at i h)) (λ r h. differences.numbers r (omega arith) ∙ ap half_of (difference_at r h)))
