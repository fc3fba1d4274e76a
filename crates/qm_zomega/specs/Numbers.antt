-- The ring Z[omega], omega = exp(i pi / 4): the numbers a + b omega + c omega^2 + d omega^3 with whole a, b, c, d of any size.
-- omega^4 = -1, and root2 = omega - omega^3 is the square root of 2
use Rattle.std.specs.Prelude.{◌≡◌, ℕ, ◌+◌, ◌*◌, ℤ, pos, ◌+ℤ◌, ◌-ℤ◌, neg_ℤ, unsigned_abs}
use Rattle.std.proofs.Common.{zero, suc}

-- the number a + b omega + c omega^2 + d omega^3
pub record Number : Type 0 where
  pub a : ℤ
  pub b : ℤ
  pub c : ℤ
  pub d : ℤ

-- the number with these components
abbrev pub number : ℤ → ℤ → ℤ → ℤ → Number
number a b c d = record { a = a; b = b; c = c; d = d }

-- 0
abbrev pub zero_number : Number
zero_number = number (pos 0) (pos 0) (pos 0) (pos 0)

-- 1
abbrev pub one_number : Number
one_number = number (pos 1) (pos 0) (pos 0) (pos 0)

-- the sum, component by component
unfoldable pub plus : Number → Number → Number
plus z w = number (z.a +ℤ w.a) (z.b +ℤ w.b) (z.c +ℤ w.c) (z.d +ℤ w.d)

infixl 6 ◌⊕◌
-- the sum, as an operator
abbrev pub ◌⊕◌ : Number → Number → Number
z ⊕ w = plus z w

-- the difference, component by component
unfoldable pub minus : Number → Number → Number
minus z w = number (z.a -ℤ w.a) (z.b -ℤ w.b) (z.c -ℤ w.c) (z.d -ℤ w.d)

infixl 6 ◌⊖◌
-- the difference, as an operator
abbrev pub ◌⊖◌ : Number → Number → Number
z ⊖ w = minus z w

-- the number with every sign turned
unfoldable pub negative : Number → Number
negative z = number (neg_ℤ z.a) (neg_ℤ z.b) (neg_ℤ z.c) (neg_ℤ z.d)

-- omega times z
unfoldable pub turned : Number → Number
turned z = number (neg_ℤ z.d) z.a z.b z.c

-- omega^e times z
abbrev pub omega_times : ℕ → Number → Number
omega_times zero z = z
omega_times (suc e) z = turned (omega_times e z)

-- root2 times z
unfoldable pub root2_of : Number → Number
root2_of z = number (z.b -ℤ z.d) (z.a +ℤ z.c) (z.b +ℤ z.d) (z.c -ℤ z.a)

-- root2^n times z
abbrev pub root2_times : ℕ → Number → Number
root2_times zero z = z
root2_times (suc n) z = root2_of (root2_times n z)

-- root2 divides z
abbrev pub IsDivisible : Number → Type 0
IsDivisible z = (w : Number) × (root2_of w ≡ z)

-- x times x
abbrev pub square : ℤ → ℕ
square x = unsigned_abs x * unsigned_abs x

-- N(z), the sum of the squares of the components
unfoldable pub norm : Number → ℕ
norm z = square z.a + square z.b + square z.c + square z.d
