-- The numbers A + B root2 with whole A and B, and their order: that of the reals, told by signs and squares of whole numbers
use Rattle.std.specs.Prelude.{◌≡◌, ◌⊎◌, ℕ, suc, ◌+◌, ◌*◌, nat_lt, Bool, true, false, ℤ, pos, negsuc, ◌+ℤ◌, ◌-ℤ◌, ◌*ℤ◌, neg_ℤ}

-- the number whole + root root2
pub record Surd : Type 0 where
  pub whole : ℤ
  pub root : ℤ

-- the number with these parts
abbrev pub surd : ℤ → ℤ → Surd
surd a b = record { whole = a; root = b }

-- 0, 1 and root2
abbrev pub nought : Surd
nought = surd (pos 0) (pos 0)

abbrev pub unit : Surd
unit = surd (pos 1) (pos 0)

abbrev pub root2 : Surd
root2 = surd (pos 0) (pos 1)

-- the sum, the difference, the number with both signs turned, and the product
abbrev pub plus : Surd → Surd → Surd
plus x y = surd (x.whole +ℤ y.whole) (x.root +ℤ y.root)

abbrev pub minus : Surd → Surd → Surd
minus x y = surd (x.whole -ℤ y.whole) (x.root -ℤ y.root)

abbrev pub negative : Surd → Surd
negative x = surd (neg_ℤ x.whole) (neg_ℤ x.root)

abbrev pub times : Surd → Surd → Surd
times x y = surd (x.whole *ℤ y.whole +ℤ pos 2 *ℤ (x.root *ℤ y.root)) (x.whole *ℤ y.root +ℤ x.root *ℤ y.whole)

-- n times the number
abbrev pub scaled : ℕ → Surd → Surd
scaled n x = surd (pos n *ℤ x.whole) (pos n *ℤ x.root)

-- whether A + B root2 is above 0: by the signs of A and B, and where they differ, by A^2 and 2 B^2
abbrev pub by_signs : ℤ → ℤ → Bool
by_signs (pos a) (pos b) = nat_lt 0 (a + b)
by_signs (pos a) (negsuc b) = nat_lt (2 * (suc b * suc b)) (a * a)
by_signs (negsuc a) (pos b) = nat_lt (suc a * suc a) (2 * (b * b))
by_signs (negsuc a) (negsuc b) = false

abbrev pub is_positive : Surd → Bool
is_positive x = by_signs x.whole x.root

-- whether x is below y
abbrev pub is_below : Surd → Surd → Bool
is_below x y = is_positive (minus y x)

-- these numbers are the positive ones of an order of the numbers A + B root2, in which root2 is positive: each number but 0 is positive or
-- its negative is, not both, and sums and products of positive numbers are positive. The reals give such an order
pub record IsOrder (above : Surd → Bool) : Type 0 where
  pub none : above nought ≡ false
  pub each : (x : Surd) → (x ≡ nought) ⊎ ((above x ≡ true) ⊎ (above (negative x) ≡ true))
  pub sums : (x y : Surd) → above x ≡ true → above y ≡ true → above (plus x y) ≡ true
  pub products : (x y : Surd) → above x ≡ true → above y ≡ true → above (times x y) ≡ true
  pub root : above root2 ≡ true

-- so the reals' is the one that signs and squares tell
abbrev pub OneOrderLaw : Type 0
OneOrderLaw = (above : Surd → Bool) → IsOrder above → (x : Surd) → above x ≡ is_positive x

-- and the test by signs and squares is one
abbrev pub OrderLaw : Type 0
OrderLaw = IsOrder is_positive
