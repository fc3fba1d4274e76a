-- The positive numbers A + B root2, by the signs of A and B, are closed under sums
use Rattle.std.proofs.Common.{◌≡◌, ◌∙◌, ◌⊎◌, inl, inr, ℕ, zero, suc, ◌+◌, ◌*◌, ◌<◌, ◌≤◌, true, ℤ, pos, negsuc, ◌+ℤ◌, neg_ℤ, refl, ap₂, subst, arith, mul-le-mul}
use Rattle.std.proofs.lemmas.Bool.{ltb-true, lt-ltb}
use Rattle.std.proofs.lemmas.Int.{ints}
use Rattle.qm_sizes.specs.Surds.{by_signs}

-- A + B root2 is above 0
pub data IsAbove (a b : ℤ) : Type 0 where
  Both : (x y : ℕ) → a ≡ pos x → b ≡ pos y → 0 < x + y → IsAbove a b
  Whole : (x y : ℕ) → a ≡ pos x → b ≡ neg_ℤ (pos y) → 2 * (y * y) < x * x → IsAbove a b
  Root : (x y : ℕ) → a ≡ neg_ℤ (pos x) → b ≡ pos y → x * x < 2 * (y * y) → IsAbove a b

some_square : (x n : ℕ) → n < x * x → 0 < x
some_square zero n h = absurd (omega (arith, h))
some_square (suc x) n h = omega arith

some_double : (y n : ℕ) → n < 2 * (y * y) → 0 < y
some_double zero n h = absurd (omega (arith, h))
some_double (suc y) n h = omega arith

pub from_signs : (a b : ℤ) → by_signs a b ≡ true → IsAbove a b
from_signs (pos a) (pos b) e = Both a b refl refl (ltb-true 0 (a + b) e)
from_signs (pos a) (negsuc b) e = Whole a (suc b) refl refl (ltb-true (2 * (suc b * suc b)) (a * a) e)
from_signs (negsuc a) (pos b) e = Root (suc a) b refl refl (ltb-true (suc a * suc a) (2 * (b * b)) e)
from_signs (negsuc a) (negsuc b) e = absurd (let n : ⊥ = cc in n)

whole_signs : (x y : ℕ) → 2 * (y * y) < x * x → by_signs (pos x) (neg_ℤ (pos y)) ≡ true
whole_signs x zero h = lt-ltb 0 (x + 0) (let s = some_square x _ h in omega (arith, s))
whole_signs x (suc y) h = lt-ltb (2 * (suc y * suc y)) (x * x) h

root_signs : (x y : ℕ) → x * x < 2 * (y * y) → by_signs (neg_ℤ (pos x)) (pos y) ≡ true
root_signs zero y h = lt-ltb 0 (0 + y) (let s = some_double y _ h in omega (arith, s))
root_signs (suc x) y h = lt-ltb (suc x * suc x) (2 * (y * y)) h

pub to_signs : (a b : ℤ) → IsAbove a b → by_signs a b ≡ true
to_signs a b (Both x y e f h) = ap₂ by_signs e f ∙ lt-ltb 0 (x + y) h
to_signs a b (Whole x y e f h) = ap₂ by_signs e f ∙ whole_signs x y h
to_signs a b (Root x y e f h) = ap₂ by_signs e f ∙ root_signs x y h

-- ---- products of parts
below_or : (m n : ℕ) → (m < n) ⊎ (n ≤ m)
below_or m n = grind arith

pub cross : (a b c d : ℕ) → a * a ≤ 2 * (b * b) → c * c ≤ 2 * (d * d) → a * c ≤ 2 * (b * d)
cross a b c d h k = elim (below_or (2 * (b * d)) (a * c)) [
  | inr le ↦ le
  | inl lt ↦ absurd (
      let m : (2 * (b * d) + 1) * (2 * (b * d) + 1) ≤ (a * c) * (a * c) = mul-le-mul (next lt) (next lt) in
      let n : (a * a) * (c * c) ≤ (2 * (b * b)) * (2 * (d * d)) = mul-le-mul h k in omega (arith, m, n))
]
  where
    next : {m n : ℕ} → m < n → m + 1 ≤ n
    next h = omega (arith, h)

pub cross_back : (a b c d : ℕ) → 2 * (b * b) ≤ a * a → 2 * (d * d) ≤ c * c → 2 * (b * d) ≤ a * c
cross_back a b c d h k = elim (below_or (a * c) (2 * (b * d))) [
  | inr le ↦ le
  | inl lt ↦ absurd (
      let m : (a * c + 1) * (a * c + 1) ≤ (2 * (b * d)) * (2 * (b * d)) = mul-le-mul (next lt) (next lt) in
      let n : (2 * (b * b)) * (2 * (d * d)) ≤ (a * a) * (c * c) = mul-le-mul h k in omega (arith, m, n))
]
  where
    next : {m n : ℕ} → m < n → m + 1 ≤ n
    next h = omega (arith, h)

-- ---- sums
differ : (m n : ℕ) → ((u : ℕ) × (m ≡ n + u)) ⊎ ((u : ℕ) × (n ≡ m + u))
differ zero n = inr (n, omega arith)
differ (suc m) zero = inl (suc m, omega arith)
differ (suc m) (suc n) = elim (differ m n) [ inl (u, e) ↦ inl (u, omega (arith, e)) | inr (u, e) ↦ inr (u, omega (arith, e)) ]

module _ (a b c d : ℤ) where
  abbrev Sum : Type 0
  Sum = IsAbove (a +ℤ c) (b +ℤ d)

  both_both : (x y z w : ℕ) → a ≡ pos x → b ≡ pos y → 0 < x + y → c ≡ pos z → d ≡ pos w → Sum
  both_both x y z w e f h g k = Both (x + z) (y + w) (omega (arith, ints, e, g)) (omega (arith, ints, f, k)) (omega (arith, h))

  both_whole : (x y z w : ℕ) → a ≡ pos x → b ≡ pos y → c ≡ pos z → d ≡ neg_ℤ (pos w) → 2 * (w * w) < z * z → Sum
  both_whole x y z w e f g k h =
      let some = some_square z _ h in
      elim (differ y w) [
        | inl (u, is) ↦ Both (x + z) u (omega (arith, ints, e, g)) (omega (arith, ints, f, k, is)) (omega (arith, some))
        | inr (u, is) ↦ Whole (x + z) u (omega (arith, ints, e, g)) (omega (arith, ints, f, k, is)) (let l = subst (λ w. 2 * (w * w) < z * z) is h in omega (arith, l))
      ]

  both_root : (x y z w : ℕ) → a ≡ pos x → b ≡ pos y → c ≡ neg_ℤ (pos z) → d ≡ pos w → z * z < 2 * (w * w) → Sum
  both_root x y z w e f g k h =
      let some = some_double w _ h in
      elim (differ x z) [
        | inl (u, is) ↦ Both u (y + w) (omega (arith, ints, e, g, is)) (omega (arith, ints, f, k)) (omega (arith, some))
        | inr (u, is) ↦ Root u (y + w) (omega (arith, ints, e, g, is)) (omega (arith, ints, f, k)) (let l = subst (λ z. z * z < 2 * (w * w)) is h in omega (arith, l))
      ]

  whole_whole : (x y z w : ℕ) → a ≡ pos x → b ≡ neg_ℤ (pos y) → 2 * (y * y) < x * x → c ≡ pos z → d ≡ neg_ℤ (pos w) → 2 * (w * w) < z * z → Sum
  whole_whole x y z w e f h g k l =
      let m = cross_back x y z w (omega (arith, h)) (omega (arith, l)) in
      Whole (x + z) (y + w) (omega (arith, ints, e, g)) (omega (arith, ints, f, k)) (omega (arith, h, l, m))

  root_root : (x y z w : ℕ) → a ≡ neg_ℤ (pos x) → b ≡ pos y → x * x < 2 * (y * y) → c ≡ neg_ℤ (pos z) → d ≡ pos w → z * z < 2 * (w * w) → Sum
  root_root x y z w e f h g k l =
      let m = cross x y z w (omega (arith, h)) (omega (arith, l)) in
      Root (x + z) (y + w) (omega (arith, ints, e, g)) (omega (arith, ints, f, k)) (omega (arith, h, l, m))

  some_difference : (z u y v : ℕ) → 2 * (y * y) < (z + u) * (z + u) → z * z < 2 * ((y + v) * (y + v)) → 0 < u + v
  some_difference z zero y zero h l = absurd (omega (arith, h, l))
  some_difference z (suc u) y v h l = omega arith
  some_difference z zero y (suc v) h l = omega arith

  whole_root : (x y z w : ℕ) → a ≡ pos x → b ≡ neg_ℤ (pos y) → 2 * (y * y) < x * x → c ≡ neg_ℤ (pos z) → d ≡ pos w → z * z < 2 * (w * w) → Sum
  whole_root x y z w e f h g k l = elim (differ x z) [
    | inl (u, is) ↦ elim (differ w y) [
      | inl (v, so) ↦ (
          let h' = subst (λ x. 2 * (y * y) < x * x) is h in let l' = subst (λ w. z * z < 2 * (w * w)) so l in
          Both u v (omega (arith, ints, e, g, is)) (omega (arith, ints, f, k, so)) (some_difference z u y v h' l'))
      | inr (v, so) ↦ (
          let h' = subst (λ y. 2 * (y * y) < (z + u) * (z + u)) so (subst (λ x. 2 * (y * y) < x * x) is h) in
          Whole u v (omega (arith, ints, e, g, is)) (omega (arith, ints, f, k, so)) (elim (below_or (2 * (v * v)) (u * u)) [
            | inl lt ↦ lt
            | inr le ↦ absurd (let m = cross u v z w le (omega (arith, l)) in omega (arith, h', l, le, m))
          ]))
    ]
    | inr (u, is) ↦ elim (differ w y) [
      | inl (v, so) ↦ (
          let l' = subst (λ w. (x + u) * (x + u) < 2 * (w * w)) so (subst (λ z. z * z < 2 * (w * w)) is l) in
          Root u v (omega (arith, ints, e, g, is)) (omega (arith, ints, f, k, so)) (elim (below_or (u * u) (2 * (v * v))) [
            | inl lt ↦ lt
            | inr le ↦ absurd (let m = cross_back u v x y le (omega (arith, h)) in omega (arith, h, l', le, m))
          ]))
      | inr (v, so) ↦ absurd (
          let h' = subst (λ y. 2 * (y * y) < x * x) so h in let l' = subst (λ z. z * z < 2 * (w * w)) is l in omega (arith, h', l'))
    ]
  ]

swapped : (a b c d : ℤ) → IsAbove (c +ℤ a) (d +ℤ b) → IsAbove (a +ℤ c) (b +ℤ d)
swapped a b c d h = subst (λ x. IsAbove x (b +ℤ d)) (omega (arith, ints)) (subst (λ y. IsAbove (c +ℤ a) y) (omega (arith, ints)) h)

pub sum_above : (a b c d : ℤ) → IsAbove a b → IsAbove c d → IsAbove (a +ℤ c) (b +ℤ d)
sum_above a b c d (Both x y e f h) (Both z w g k l) = both_both a b c d x y z w e f h g k
sum_above a b c d (Both x y e f h) (Whole z w g k l) = both_whole a b c d x y z w e f g k l
sum_above a b c d (Both x y e f h) (Root z w g k l) = both_root a b c d x y z w e f g k l
sum_above a b c d (Whole x y e f h) (Both z w g k l) = swapped a b c d (both_whole c d a b z w x y g k e f h)
sum_above a b c d (Whole x y e f h) (Whole z w g k l) = whole_whole a b c d x y z w e f h g k l
sum_above a b c d (Whole x y e f h) (Root z w g k l) = whole_root a b c d x y z w e f h g k l
sum_above a b c d (Root x y e f h) (Both z w g k l) = swapped a b c d (both_root c d a b z w x y g k e f h)
sum_above a b c d (Root x y e f h) (Whole z w g k l) = swapped a b c d (whole_root c d a b z w x y g k l e f h)
sum_above a b c d (Root x y e f h) (Root z w g k l) = root_root a b c d x y z w e f h g k l
