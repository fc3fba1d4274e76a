-- Which numbers fit the components, and the norm as a bound
use Rattle.std.proofs.Common.{◌⊎◌, ◌↔◌, ℕ, zero, suc, ◌+◌, ◌*◌, ◌^◌, ◌≤◌, ◌<◌, arith, inl, inr}
use Rattle.std.proofs.lemmas.Int.{ints}
use Rattle.std.proofs.lemmas.Nat.{mul-le, pow-add}
use Rattle.qm_zomega.specs.Numbers.{Number, negative, zero_number, turned, omega_times, norm, square}
use Rattle.qm_zomega.specs.Range.{FitsZw, IsBelow}

pub FitsZw-zero : FitsZw zero_number
FitsZw-zero = record { a_fits = omega arith; b_fits = omega arith; c_fits = omega arith; d_fits = omega arith }

pub FitsZw-negative : (z : Number) → FitsZw (negative z) ↔ FitsZw z
unfolding negative
FitsZw-negative z = (
  (λ f. record { a_fits = omega (arith, ints, f.a_fits); b_fits = omega (arith, ints, f.b_fits); c_fits = omega (arith, ints, f.c_fits); d_fits = omega (arith, ints, f.d_fits) }),
  (λ f. record { a_fits = omega (arith, ints, f.a_fits); b_fits = omega (arith, ints, f.b_fits); c_fits = omega (arith, ints, f.c_fits); d_fits = omega (arith, ints, f.d_fits) }),
)

pub FitsZw-turned : (z : Number) → FitsZw (turned z) ↔ FitsZw z
unfolding turned
FitsZw-turned z = (
  (λ f. record { a_fits = f.b_fits; b_fits = f.c_fits; c_fits = f.d_fits; d_fits = omega (arith, ints, f.a_fits) }),
  (λ f. record { a_fits = omega (arith, ints, f.d_fits); b_fits = f.a_fits; c_fits = f.b_fits; d_fits = f.c_fits }),
)

pub FitsZw-omega : (k : ℕ) (z : Number) → FitsZw (omega_times k z) ↔ FitsZw z
FitsZw-omega zero z = ((λ f. f), (λ f. f))
FitsZw-omega (suc k) z = (
  (λ f. (FitsZw-omega k z).0 ((FitsZw-turned (omega_times k z)).0 f)),
  (λ f. (FitsZw-turned (omega_times k z)).1 ((FitsZw-omega k z).1 f)),
)

-- to fit is to lie below 2^127
pub FitsZw-below : (z : Number) → FitsZw z ↔ IsBelow 127 z
FitsZw-below z = (
  (λ f. record { a_below = f.a_fits; b_below = f.b_fits; c_below = f.c_fits; d_below = f.d_fits }),
  (λ f. record { a_fits = f.a_below; b_fits = f.b_below; c_fits = f.c_below; d_fits = f.d_below }),
)

-- the square of each component is at most n
pub record SquaresWithin (n : ℕ) (z : Number) : Type 0 where
  pub a_within : square z.a ≤ n
  pub b_within : square z.b ≤ n
  pub c_within : square z.c ≤ n
  pub d_within : square z.d ≤ n

-- no component's square is above the norm
pub squares_within_norm : (z : Number) → SquaresWithin (norm z) z
unfolding norm
squares_within_norm z = record { a_within = omega arith; b_within = omega arith; c_within = omega arith; d_within = omega arith }

below_or_not : (m n : ℕ) → (m < n) ⊎ (n ≤ m)
below_or_not m n = grind arith

-- a number whose square is below 2^2n is below 2^n
root_below : (n x : ℕ) → x * x < 2 ^ (n + n) → x < 2 ^ n
root_below n x h = elim (below_or_not x (2 ^ n)) [
  | inl below ↦ below
  | inr above ↦ absurd (omega (arith, pow-add 2 n n, mul-le (2 ^ n) (2 ^ n) x x above above))
]

-- a norm below 2^2n keeps every component below 2^n
pub below_where_norm_below : (n : ℕ) (z : Number) → norm z < 2 ^ (n + n) → IsBelow n z
below_where_norm_below n z h =
    let w = squares_within_norm z in
    record {
      a_below = root_below n _ (omega (arith, w.a_within));
      b_below = root_below n _ (omega (arith, w.b_within));
      c_below = root_below n _ (omega (arith, w.c_within));
      d_below = root_below n _ (omega (arith, w.d_within));
    }

-- so a norm below 2^254 fits
pub fits_where_norm_below : (z : Number) → norm z < 2 ^ 254 → FitsZw z
fits_where_norm_below z h = (FitsZw-below z).1 (below_where_norm_below 127 z h)
