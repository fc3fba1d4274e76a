-- Division of a list of numbers by root2
use Rattle.std.proofs.Common.{◌≡◌, ℕ, ◌+◌, ◌-◌, ◌<◌, ◌≤◌, inl, inr, List, length, set, below_more, refl, sym, ap, subst, ◌∙◌, arith}
use Rattle.std.proofs.lemmas.Bool.{cases_lt}
use Rattle.qm_zomega.specs.Numbers.{Number, zero_number, root2_of, root2_times, IsDivisible}
use Rattle.qm_zomega.specs.NumberLists.{meant_at, AreDivisible}
use Rattle.qm_zomega.proofs.Laws.Divisible.{IsDivisible-zero}
use Rattle.qm_zomega.proofs.Laws.Powers.{root2-zero, root2_times-zero, root2_times-more}
use Rattle.qm_zomega.proofs.SeenLaws.{seen-past, seen-set_same, seen-set_other}

module _ {A : Type 0} (meaning : A → Number) where
  -- what holds of each number of the list, and of zero, holds at each index
  pub each_index : (P : Number → Type 0) (xs : List A) → P zero_number → ((i : ℕ) → i < length xs → P (meant_at meaning xs i)) → (i : ℕ) → P (meant_at meaning xs i)
  each_index P xs zero each i = elim (cases_lt i (length xs)) [
    | inl lt ↦ each i lt
    | inr le ↦ subst P (sym (seen-past meaning zero_number xs i le)) zero
  ]

  pub all_divisible : (xs : List A) (n : ℕ) → length xs ≤ n → ((i : ℕ) → i < n → IsDivisible (meant_at meaning xs i)) → AreDivisible (meant_at meaning xs)
  all_divisible xs n end each = each_index IsDivisible xs IsDivisible-zero (λ i h. each i (omega arith))

  pub all_zeros : (xs : List A) (n : ℕ) → length xs ≤ n → ((i : ℕ) → i < n → meant_at meaning xs i ≡ zero_number) → (i : ℕ) → meant_at meaning xs i ≡ zero_number
  all_zeros xs n end each = each_index (λ z. z ≡ zero_number) xs refl (λ i h. each i (omega arith))

  -- a list of which the numbers before index i were divided
  module _ (old now : List A) (i : ℕ) (z : A) (below : i < length now) (before : (j : ℕ) → j < i → root2_of (meant_at meaning now j) ≡ meant_at meaning old j)
      (after : (j : ℕ) → i ≤ j → meant_at meaning now j ≡ meant_at meaning old j) where
    pub halved_more : root2_of (meaning z) ≡ meant_at meaning old i → (j : ℕ) → j < i + 1 → root2_of (meant_at meaning (set now i z) j) ≡ meant_at meaning old j
    halved_more e = below_more _ _
        (λ j l. ap root2_of (seen-set_other meaning zero_number now i j z (λ (s : j ≡ i). let k : ⊥ = omega arith in k)) ∙ before j l)
        (ap root2_of (seen-set_same meaning zero_number now i z below) ∙ e)

    pub rest_kept : (j : ℕ) → i + 1 ≤ j → meant_at meaning (set now i z) j ≡ meant_at meaning old j
    rest_kept j l = seen-set_other meaning zero_number now i j z (λ (s : j ≡ i). let k : ⊥ = omega arith in k) ∙ after j (omega arith)

  pub all_halved : (old now : List A) (n : ℕ) → length now ≤ n → length now ≡ length old → ((j : ℕ) → j < n → root2_of (meant_at meaning now j) ≡ meant_at meaning old j)
      → (j : ℕ) → root2_of (meant_at meaning now j) ≡ meant_at meaning old j
  all_halved old now n end same each j = elim (cases_lt j (length now)) [
    | inl lt ↦ each j (omega arith)
    | inr le ↦
        ap root2_of (seen-past meaning zero_number now j le) ∙ root2-zero ∙ sym (seen-past meaning zero_number old j (omega arith))
  ]

-- one more division by root2
pub once_more : (k m : ℕ) (u v z : Number) → 0 < m → m ≤ k → root2_of u ≡ v → root2_times (k - m) v ≡ z → root2_times (k - (m - 1)) u ≡ z
once_more k m u v z some le e f =
    let n : k - (m - 1) ≡ (k - m) + 1 = omega arith in
    rw n (root2_times-more (k - m) 1 u ∙ ap (root2_times (k - m)) e ∙ f)

-- zeros over any power are zeros over root2^0
pub zeros_over : (k n : ℕ) (u z : Number) → u ≡ zero_number → root2_times n u ≡ z → root2_times (k - 0) u ≡ z
zeros_over k n u z e f = ap (root2_times (k - 0)) e ∙ root2_times-zero (k - 0) ∙ sym (root2_times-zero n) ∙ sym (ap (root2_times n) e) ∙ f
