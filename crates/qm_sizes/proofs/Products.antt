-- Products of small components
use Rattle.std.proofs.Common.{ℕ, ◌*◌, ◌<◌, ◌≤◌, ◌^◌, ℤ, pos, ◌*ℤ◌, unsigned_abs, sym, subst, arith, mul-le-mul}
use Rattle.std.proofs.lemmas.Int.{unsigned_abs-mul}

pub small_product : (x y : ℤ) → unsigned_abs x < 2 ^ 19 → unsigned_abs y < 2 ^ 19 → unsigned_abs (x *ℤ y) ≤ 2 ^ 38
small_product x y h k =
    let both : unsigned_abs x * unsigned_abs y ≤ 2 ^ 19 * 2 ^ 19 = mul-le-mul (below h) (below k) in
    subst (λ n. n ≤ 2 ^ 38) (sym (unsigned_abs-mul x y)) (omega (arith, both))
  where
    below : {n : ℕ} → n < 2 ^ 19 → n ≤ 2 ^ 19
    below h = omega arith

pub small_scaled : (n : ℕ) (x : ℤ) → n ≤ 2 ^ 24 → unsigned_abs x ≤ 2 ^ 37 → unsigned_abs (pos n *ℤ x) ≤ 2 ^ 61
small_scaled n x h k =
    let both : n * unsigned_abs x ≤ 2 ^ 24 * 2 ^ 37 = mul-le-mul h k in
    subst (λ m. m ≤ 2 ^ 61) (sym (unsigned_abs-mul (pos n) x)) (omega (arith, both))
