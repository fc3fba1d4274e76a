-- Numbers whose sums and differences stay in the range
use Rattle.std.specs.Prelude.{◌^◌, ℤ, pos, neg_ℤ, ◌<ℤ◌, ◌≤ℤ◌}
use Rattle.qm_zomega.specs.Numbers.{Number}

-- x is from -2^125 to 2^125 - 1
pub record IsSmallPart (x : ℤ) : Type 0 where
  pub low : neg_ℤ (pos (2 ^ 125)) ≤ℤ x
  pub high : x <ℤ pos (2 ^ 125)

-- each component is small
pub record IsSmall (z : Number) : Type 0 where
  pub a_small : IsSmallPart z.a
  pub b_small : IsSmallPart z.b
  pub c_small : IsSmallPart z.c
  pub d_small : IsSmallPart z.d
