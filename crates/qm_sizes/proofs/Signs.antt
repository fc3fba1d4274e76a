-- The test of a number by its signs, as the code makes it
use Rattle.std.proofs.Common.{◌≡◌, ℕ, ◌+◌, ◌*◌, ◌≤◌, ◌^◌, nat_lt, false, ℤ, pos, negsuc, ◌≤ℤ◌, ◌<ℤ◌, unsigned_abs, refl, arith, mul-le-mul}
use Rattle.std.proofs.lemmas.Int.{ints}
use Rattle.qm_sizes.specs.Surds.{by_signs}

pub small_square : (n : ℕ) → n ≤ 2 ^ 62 → n * n ≤ 2 ^ 124
small_square n h = let both : n * n ≤ 2 ^ 62 * 2 ^ 62 = mul-le-mul h h in omega (arith, both)

pub no_minus : (a b : ℤ) → pos 0 ≤ℤ a → pos 0 ≤ℤ b → by_signs a b ≡ nat_lt 0 (unsigned_abs a + unsigned_abs b)
no_minus (pos a) (pos b) h k = refl
no_minus (negsuc a) b h k = absurd (omega (arith, ints))
no_minus (pos a) (negsuc b) h k = absurd (omega (arith, ints))

pub root_minus : (a b : ℤ) → pos 0 ≤ℤ a → b <ℤ pos 0 → by_signs a b ≡ nat_lt (2 * (unsigned_abs b * unsigned_abs b)) (unsigned_abs a * unsigned_abs a)
root_minus (pos a) (negsuc b) h k = refl
root_minus (negsuc a) b h k = absurd (omega (arith, ints))
root_minus (pos a) (pos b) h k = absurd (omega (arith, ints))

pub whole_minus : (a b : ℤ) → a <ℤ pos 0 → pos 0 ≤ℤ b → by_signs a b ≡ nat_lt (unsigned_abs a * unsigned_abs a) (2 * (unsigned_abs b * unsigned_abs b))
whole_minus (negsuc a) (pos b) h k = refl
whole_minus (pos a) b h k = absurd (omega (arith, ints))
whole_minus (negsuc a) (negsuc b) h k = absurd (omega (arith, ints))

pub both_minus : (a b : ℤ) → a <ℤ pos 0 → b <ℤ pos 0 → by_signs a b ≡ false
both_minus (negsuc a) (negsuc b) h k = refl
both_minus (pos a) b h k = absurd (omega (arith, ints))
both_minus (negsuc a) (pos b) h k = absurd (omega (arith, ints))
