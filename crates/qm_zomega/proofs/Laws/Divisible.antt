-- Which numbers root2 divides
use Rattle.std.proofs.Common.{◌≡◌, ◌∙◌, ◌⊎◌, ◌↔◌, ◌+◌, ◌/◌, ℕ, zero, suc, ℤ, pos, negsuc, ◌+ℤ◌, ◌-ℤ◌, ap, arith, inl, inr, sym}
use Rattle.std.proofs.lemmas.Int.{ints}
use Rattle.qm_zomega.specs.Component.{IsEven}
use Rattle.qm_zomega.specs.Numbers.{Number, number, ◌⊕◌, ◌⊖◌, negative, zero_number, turned, omega_times, root2_of, IsDivisible}
use Rattle.qm_zomega.proofs.Laws.Ring.{same, negative-negative}
use Rattle.qm_zomega.proofs.Laws.Powers.{turned-root2, omega8, root2-zero, root2-add, root2-sub, negative-root2}

-- where a + c and b + d are even, root2 divides
pub divisible_where : (z : Number) (h k : ℤ) → h +ℤ h ≡ z.a +ℤ z.c → k +ℤ k ≡ z.b +ℤ z.d → IsDivisible z
unfolding root2_of
divisible_where z h k p q = (number (k -ℤ z.d) h k (h -ℤ z.a), same _ _ (omega (arith, ints)) (omega (arith, ints)) (omega (arith, ints)) (omega (arith, ints)))

-- w, taken twice, is ((b-d), (a+c), (b+d), (c-a)) of z
pub record Quarters (z w : Number) : Type 0 where
  pub is_a : w.a +ℤ w.a ≡ z.b -ℤ z.d
  pub is_b : w.b +ℤ w.b ≡ z.a +ℤ z.c
  pub is_c : w.c +ℤ w.c ≡ z.b +ℤ z.d
  pub is_d : w.d +ℤ w.d ≡ z.c -ℤ z.a

pub quarters : (z w : Number) → root2_of w ≡ z → Quarters z w
unfolding root2_of
quarters z w e =
    let a : w.b -ℤ w.d ≡ z.a = ap (λ (t : Number). t.a) e in
    let b : w.a +ℤ w.c ≡ z.b = ap (λ (t : Number). t.b) e in
    let c : w.b +ℤ w.d ≡ z.c = ap (λ (t : Number). t.c) e in
    let d : w.c -ℤ w.a ≡ z.d = ap (λ (t : Number). t.d) e in
    record { is_a = omega (arith, ints); is_b = omega (arith, ints); is_c = omega (arith, ints); is_d = omega (arith, ints) }

pub from_quarters : (z w : Number) → Quarters z w → root2_of w ≡ z
unfolding root2_of
from_quarters z w q = same _ _ (omega (arith, ints)) (omega (arith, ints)) (omega (arith, ints)) (omega (arith, ints))

-- ---- what keeps divisible
pub IsDivisible-zero : IsDivisible zero_number
IsDivisible-zero = (zero_number, root2-zero)

pub IsDivisible-plus : (z w : Number) → IsDivisible z → IsDivisible w → IsDivisible (z ⊕ w)
IsDivisible-plus z w (x, e) (y, f) = (x ⊕ y, root2-add x y ∙ ap (λ t. t ⊕ root2_of y) e ∙ ap (λ t. z ⊕ t) f)

pub IsDivisible-minus : (z w : Number) → IsDivisible z → IsDivisible w → IsDivisible (z ⊖ w)
IsDivisible-minus z w (x, e) (y, f) = (x ⊖ y, root2-sub x y ∙ ap (λ t. t ⊖ root2_of y) e ∙ ap (λ t. z ⊖ t) f)

turned_divisible : (z : Number) → IsDivisible z → IsDivisible (turned z)
turned_divisible z (w, e) = (turned w, sym (turned-root2 w) ∙ ap turned e)

omega_times_divisible : (k : ℕ) (z : Number) → IsDivisible z → IsDivisible (omega_times k z)
omega_times_divisible zero z h = h
omega_times_divisible (suc k) z h = turned_divisible _ (omega_times_divisible k z h)

pub IsDivisible-turned : (z : Number) → IsDivisible (turned z) ↔ IsDivisible z
IsDivisible-turned z = ((λ h. rw (omega8 z) at (omega_times_divisible 7 (turned z) h)), turned_divisible z)

pub IsDivisible-omega : (k : ℕ) (z : Number) → IsDivisible (omega_times k z) ↔ IsDivisible z
IsDivisible-omega zero z = ((λ h. h), (λ h. h))
IsDivisible-omega (suc k) z =
    ((λ h. (IsDivisible-omega k z).0 ((IsDivisible-turned (omega_times k z)).0 h)), omega_times_divisible (suc k) z)

negative_divisible : (z : Number) → IsDivisible z → IsDivisible (negative z)
negative_divisible z (w, e) = (negative w, negative-root2 w ∙ ap negative e)

pub IsDivisible-negative : (z : Number) → IsDivisible (negative z) ↔ IsDivisible z
IsDivisible-negative z = ((λ h. rw (negative-negative z) at (negative_divisible (negative z) h)), negative_divisible z)

-- ---- decided
-- n is twice its half, or one more
even_or_odd : (n : ℕ) → (n / 2 + n / 2 ≡ n) ⊎ (n / 2 + n / 2 + 1 ≡ n)
even_or_odd n = grind arith

-- a whole number is even or is not
pub even_or_not : (x : ℤ) → IsEven x ⊎ (IsEven x → ⊥)
even_or_not (pos n) = elim (even_or_odd n) [
  | inl e ↦ inl (pos (n / 2), omega (arith, ints))
  | inr e ↦ inr (λ (h, twice). omega (arith, ints))
]
even_or_not (negsuc n) = elim (even_or_odd n) [
  | inl e ↦ inr (λ (h, twice). omega (arith, ints))
  | inr e ↦ inl (negsuc (n / 2), omega (arith, ints))
]

-- root2 divides a number or does not
pub divisible_or_not : (z : Number) → IsDivisible z ⊎ (IsDivisible z → ⊥)
divisible_or_not z =
    elim (even_or_not (z.a +ℤ z.c)) [
      | inl (h, p) ↦ elim (even_or_not (z.b +ℤ z.d)) [
        | inl (k, q) ↦ inl (divisible_where z h k p q)
        | inr odd ↦ inr (λ (w, e). let q = quarters z w e in odd (w.c, q.is_c))
      ]
      | inr odd ↦ inr (λ (w, e). let q = quarters z w e in odd (w.b, q.is_b))
    ]
