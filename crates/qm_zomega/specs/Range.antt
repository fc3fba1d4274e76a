-- The range of the components of numbers
use Rattle.std.specs.Prelude.{ℕ, ◌<◌, ◌^◌, ℤ, unsigned_abs}
use Rattle.qm_zomega.specs.Numbers.{Number}

-- x is from -(2^127 - 1) to 2^127 - 1, the range of a 128-bit component
abbrev pub IsInRange : ℤ → Type 0
IsInRange x = unsigned_abs x < 2 ^ 127

-- each component is in the range, so a `Zw` can hold the number
pub record FitsZw (z : Number) : Type 0 where
  pub a_fits : IsInRange z.a
  pub b_fits : IsInRange z.b
  pub c_fits : IsInRange z.c
  pub d_fits : IsInRange z.d

-- the absolute value of each component is below 2^n
pub record IsBelow (n : ℕ) (z : Number) : Type 0 where
  pub a_below : unsigned_abs z.a < 2 ^ n
  pub b_below : unsigned_abs z.b < 2 ^ n
  pub c_below : unsigned_abs z.c < 2 ^ n
  pub d_below : unsigned_abs z.d < 2 ^ n
