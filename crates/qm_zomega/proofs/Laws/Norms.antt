-- N, the sum of the squares of the components
use Rattle.std.proofs.Common.{◌≡◌, ◌≢◌, ◌∙◌, ◌⊎◌, ℕ, zero, suc, ◌+◌, ◌*◌, ◌^◌, ℤ, pos, negsuc, ◌+ℤ◌, ◌-ℤ◌, neg_ℤ, add_comm, ap, arith, inl, inr, refl, subst, sym}
use Rattle.std.proofs.Math.IntN.{nat_abs}
use Rattle.std.proofs.Math.Nat.{pow-suc}
use Rattle.std.proofs.lemmas.Int.{ints}
use Rattle.qm_zomega.specs.Numbers.{Number, ◌⊕◌, ◌⊖◌, plus, minus, negative, zero_number, turned, omega_times, root2_of, root2_times, IsDivisible, norm, square}
use Rattle.qm_zomega.proofs.Laws.Ring.{same}

-- where s is m + n, and t is how far m and n are apart
square_sum : (s t m n : ℕ) → s ≡ m + n → (t + n ≡ m) ⊎ (t + m ≡ n) → s * s + t * t ≡ 2 * (m * m) + 2 * (n * n)
square_sum s t m n p (inl q) = subst (λ m. s ≡ m + n → s * s + t * t ≡ 2 * (m * m) + 2 * (n * n)) q (λ p. subst (λ s. s * s + t * t ≡ 2 * ((t + n) * (t + n)) + 2 * (n * n)) (sym p) (omega arith)) p
square_sum s t m n p (inr q) = subst (λ n. s ≡ m + n → s * s + t * t ≡ 2 * (m * m) + 2 * (n * n)) q (λ p. subst (λ s. s * s + t * t ≡ 2 * (m * m) + 2 * ((t + m) * (t + m))) (sym p) (omega arith)) p

-- one of |x + y| and |x - y| is |x| + |y|, and the other is how far |x| and |y| are apart
sizes : (x y : ℤ) → ((nat_abs (x +ℤ y) ≡ nat_abs x + nat_abs y) × ((nat_abs (x -ℤ y) + nat_abs y ≡ nat_abs x) ⊎ (nat_abs (x -ℤ y) + nat_abs x ≡ nat_abs y)))
    ⊎ ((nat_abs (x -ℤ y) ≡ nat_abs x + nat_abs y) × ((nat_abs (x +ℤ y) + nat_abs y ≡ nat_abs x) ⊎ (nat_abs (x +ℤ y) + nat_abs x ≡ nat_abs y)))
sizes x y = grind (arith, ints)

-- the parallelogram law for whole numbers
square-parallelogram : (x y : ℤ) → square (x +ℤ y) + square (x -ℤ y) ≡ 2 * square x + 2 * square y
square-parallelogram x y =
    elim (sizes x y) [ inl h ↦ square_sum _ _ _ _ h.0 h.1 | inr h ↦ add_comm _ _ ∙ square_sum _ _ _ _ h.0 h.1 ]

nat_abs-neg : (x : ℤ) → nat_abs (neg_ℤ x) ≡ nat_abs x
nat_abs-neg x = omega (arith, ints)

-- the parallelogram law
pub norm-parallelogram : (u v : Number) → norm (u ⊕ v) + norm (u ⊖ v) ≡ 2 * (norm u + norm v)
unfolding norm plus minus
norm-parallelogram u v = omega (arith, square-parallelogram u.a v.a, square-parallelogram u.b v.b, square-parallelogram u.c v.c, square-parallelogram u.d v.d)

pub norm-zero : norm zero_number ≡ 0
unfolding norm
norm-zero = refl

pub norm-negative : (z : Number) → norm (negative z) ≡ norm z
unfolding norm negative
norm-negative z = let a = nat_abs-neg z.a in let b = nat_abs-neg z.b in let c = nat_abs-neg z.c in let d = nat_abs-neg z.d in rw (a, b, c, d) refl

pub norm-turned : (z : Number) → norm (turned z) ≡ norm z
unfolding norm turned
norm-turned z = let e = nat_abs-neg z.d in rw e (omega arith)

pub norm-omega : (k : ℕ) (z : Number) → norm (omega_times k z) ≡ norm z
norm-omega zero z = refl
norm-omega (suc k) z = norm-turned _ ∙ norm-omega k z

pub norm-root2 : (z : Number) → norm (root2_of z) ≡ 2 * norm z
unfolding norm root2_of
norm-root2 z =
    let e : z.a +ℤ z.c ≡ z.c +ℤ z.a = omega (arith, ints) in
    rw e (omega (arith, square-parallelogram z.b z.d, square-parallelogram z.c z.a))

pub norm-root2_times : (n : ℕ) (z : Number) → norm (root2_times n z) ≡ 2 ^ n * norm z
norm-root2_times zero z = omega arith
norm-root2_times (suc n) z = norm-root2 _ ∙ ap (λ t. 2 * t) (norm-root2_times n z) ∙ rw (pow-suc 2 n) (omega arith)

-- a number that root2 divides has an even norm
pub norm_is_even : (z : Number) → IsDivisible z → (m : ℕ) × (norm z ≡ 2 * m)
norm_is_even z (w, e) = (norm w, ap norm (sym e) ∙ norm-root2 w)

-- ---- only 0 has the norm 0
zero_where_square-zero : (x : ℤ) → square x ≡ 0 → x ≡ pos 0
zero_where_square-zero (pos zero) e = refl
zero_where_square-zero (pos (suc n)) e = absurd (omega arith)
zero_where_square-zero (negsuc n) e = absurd (omega arith)

pub zero_where_norm-zero : (z : Number) → norm z ≡ 0 → z ≡ zero_number
unfolding norm
zero_where_norm-zero z e = same z zero_number
    (zero_where_square-zero z.a (omega arith)) (zero_where_square-zero z.b (omega arith))
    (zero_where_square-zero z.c (omega arith)) (zero_where_square-zero z.d (omega arith))

zero_or_more : (n : ℕ) → (n ≡ 0) ⊎ (n ≢ 0)
zero_or_more zero = inl refl
zero_or_more (suc n) = inr (λ e. omega arith)

-- a number is 0 or is not
pub zero_or_not : (z : Number) → (z ≡ zero_number) ⊎ (z ≢ zero_number)
zero_or_not z = elim (zero_or_more (norm z)) [ inl e ↦ inl (zero_where_norm-zero z e) | inr n ↦ inr (λ e. n (ap norm e ∙ norm-zero)) ]
