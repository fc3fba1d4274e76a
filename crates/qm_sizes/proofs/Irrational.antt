-- root2 is irrational: no square is twice another
use Rattle.std.proofs.Common.{◌≡◌, ◌⊎◌, inl, inr, ℕ, zero, suc, ◌+◌, ◌*◌, ◌<◌, ◌≤◌, refl, subst, arith, mul-le-mul}

halved : (n : ℕ) → ((h : ℕ) × (n ≡ h + h)) ⊎ ((h : ℕ) × (n ≡ h + h + 1))
halved zero = inl (0, refl)
halved (suc n) = elim (halved n) [
  | inl (h, e) ↦ inr (h, omega (arith, e))
  | inr (h, e) ↦ inl (h + 1, omega (arith, e))
]

square_of_odd : (h m : ℕ) → (h + h + 1) * (h + h + 1) ≡ 2 * m → ⊥
square_of_odd h m e = omega (arith, e)

square_of_even : (h b : ℕ) → (h + h) * (h + h) ≡ 2 * (b * b) → b * b ≡ 2 * (h * h)
square_of_even h b e = omega (arith, e)

smaller : (a b : ℕ) → a * a ≡ 2 * (b * b) → 0 < b → b < a
smaller a b e some = elim (below_or a b) [
  | inl h ↦ h
  | inr h ↦ absurd (let m : a * a ≤ b * b = mul-le-mul h h in let p : 1 * 1 ≤ b * b = mul-le-mul some some in omega (arith, e, m, p))
]
  where
    below_or : (a b : ℕ) → (b < a) ⊎ (a ≤ b)
    below_or a b = grind arith

-- by descent: n is above both
descent : (n a b : ℕ) → a < n → a * a ≡ 2 * (b * b) → 0 < b → ⊥
descent zero a b low e some = omega (arith, low)
descent (suc n) a b low e some = elim (halved a) [
  | inl (h, even) ↦ (
      let f : (h + h) * (h + h) ≡ 2 * (b * b) = subst (λ k. k * k ≡ 2 * (b * b)) even e in
      let g : b * b ≡ 2 * (h * h) = square_of_even h b f in
      let less : b < a = smaller a b e some in
      descent n b h (omega (arith, low, less)) g (positive h g))
  | inr (h, odd) ↦ square_of_odd h (b * b) (subst (λ k. k * k ≡ 2 * (b * b)) odd e)
]
  where
    positive : (h : ℕ) → b * b ≡ 2 * (h * h) → 0 < h
    positive zero g = absurd (let p : 1 * 1 ≤ b * b = mul-le-mul some some in omega (arith, g, p))
    positive (suc h) g = omega arith

pub no_root2 : (a b : ℕ) → 0 < b → a * a ≡ 2 * (b * b) → ⊥
no_root2 a b some e = descent (suc a) a b (omega arith) e some
