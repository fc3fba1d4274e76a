-- A size is a number times its conjugate, and its parts are bounded by each other
use Rattle.std.proofs.Common.{◌≡◌, ◌∙◌, ℕ, zero, suc, ◌+◌, ◌*◌, ◌≤◌, ℤ, pos, negsuc, ◌+ℤ◌, ◌-ℤ◌, ◌*ℤ◌, neg_ℤ, unsigned_abs, refl, sym, ap, subst, arith, inl, inr, ◌-◌}
use Rattle.std.proofs.lemmas.Bool.{cases_lt}
use Rattle.std.proofs.lemmas.Int.{ints, unsigned_abs-mul}
use Rattle.qm_zomega.specs.Numbers.{Number, norm, square}
use Rattle.qm_zomega.proofs.Laws.Ring.{same}
use Rattle.qm_sizes.specs.Surds.{surd}
use Rattle.qm_sizes.specs.Sizes.{size, crossed, number_times, conjugate, number_of, SizeLaw}

-- a square is the number times itself
pub itself : (x : ℤ) → x *ℤ x ≡ pos (square x)
itself (pos n) = refl
itself (negsuc n) = refl

pub times_neg : (x y : ℤ) → x *ℤ neg_ℤ y ≡ neg_ℤ (x *ℤ y)
times_neg (pos a) (pos zero) = omega (arith, ints)
times_neg (pos a) (pos (suc b)) = refl
times_neg (pos a) (negsuc b) = omega (arith, ints)
times_neg (negsuc a) (pos zero) = omega (arith, ints)
times_neg (negsuc a) (pos (suc b)) = omega (arith, ints)
times_neg (negsuc a) (negsuc b) = refl

module _ (a b c d : ℤ) where
  first : a *ℤ a -ℤ b *ℤ neg_ℤ b -ℤ c *ℤ neg_ℤ c -ℤ d *ℤ neg_ℤ d ≡ pos (square a + square b + square c + square d)
  first = rw (times_neg b b, times_neg c c, times_neg d d, itself a, itself b, itself c, itself d) (omega (arith, ints))

  second : a *ℤ neg_ℤ d +ℤ b *ℤ a -ℤ c *ℤ neg_ℤ b -ℤ d *ℤ neg_ℤ c ≡ a *ℤ b +ℤ b *ℤ c +ℤ c *ℤ d -ℤ d *ℤ a
  second = rw (times_neg a d, times_neg c b, times_neg d c) (omega (arith, ints))

  third : a *ℤ neg_ℤ c +ℤ b *ℤ neg_ℤ d +ℤ c *ℤ a -ℤ d *ℤ neg_ℤ b ≡ pos 0
  third = rw (times_neg a c, times_neg b d, times_neg d b) (omega (arith, ints))

  fourth : a *ℤ neg_ℤ b +ℤ b *ℤ neg_ℤ c +ℤ c *ℤ neg_ℤ d +ℤ d *ℤ a ≡ neg_ℤ (a *ℤ b +ℤ b *ℤ c +ℤ c *ℤ d -ℤ d *ℤ a)
  fourth = rw (times_neg a b, times_neg b c, times_neg c d) (omega (arith, ints))

pub conjugated : (z : Number) → number_times z (conjugate z) ≡ number_of (size z)
unfolding norm
conjugated z = same _ _ (first z.a z.b z.c z.d) (second z.a z.b z.c z.d) (third z.a z.b z.c z.d) (fourth z.a z.b z.c z.d)

-- twice a product is at most the two squares
twice : (m n : ℕ) → 2 * (m * n) ≤ m * m + n * n
twice m n = elim (cases_lt m n) [ inl h ↦ apart m (n - m) n (omega arith) | inr h ↦ let e = apart n (m - n) m (omega arith) in omega arith ]
  where
    apart : (a d b : ℕ) → b ≡ a + d → 2 * (a * b) ≤ a * a + b * b
    apart a d b e = subst (λ b. 2 * (a * b) ≤ a * a + b * b) (sym e) (omega arith)

-- the part at root2 is at most the other
pub crossed_within : (z : Number) → unsigned_abs (crossed z) ≤ norm z
unfolding norm
crossed_within z =
    let a = unsigned_abs z.a in
    let b = unsigned_abs z.b in
    let c = unsigned_abs z.c in
    let d = unsigned_abs z.d in
    let each : unsigned_abs (crossed z) ≤ a * b + b * c + c * d + d * a =
    omega (arith, ints, unsigned_abs-mul z.a z.b, unsigned_abs-mul z.b z.c, unsigned_abs-mul z.c z.d, unsigned_abs-mul z.d z.a) in
    omega (arith, twice a b, twice b c, twice c d, twice d a)

pub size_law : SizeLaw
size_law z = record { square = conjugated z; within = crossed_within z }

pub norm_sum : (z : Number) → pos (square z.a) +ℤ pos (square z.b) +ℤ pos (square z.c) +ℤ pos (square z.d) ≡ pos (norm z)
unfolding norm
norm_sum z = refl

pub size_from : (z : Number) (p q : ℤ) → p ≡ pos (square z.a) +ℤ pos (square z.b) +ℤ pos (square z.c) +ℤ pos (square z.d) → q ≡ crossed z → surd p q ≡ size z
size_from z p q e f = ap (λ t. surd t q) (e ∙ norm_sum z) ∙ ap (λ t. surd (pos (norm z)) t) f
