use Rattle.std.proofs.Common.{◌≡◌, ◌⊎◌, ◌+◌, ◌-◌, ◌*◌, ◌^◌, ◌<◌, ◌≤◌, ℕ, suc, arith, inl, inr}
use Rattle.std.proofs.Math.Nat.{pow-suc}
use Rattle.std.proofs.Math.Pow.{pow_mono}
use Rattle.std.proofs.lemmas.Int.{ints}
use Rattle.std.proofs.lemmas.Nat.{leading_length}
use Rattle.std.specs.Int.Count.{count_leading_zeros}
use Rattle.qm_zomega.proofs.Zw.weight_bits.Goals as goal

at_most_or_above : (m n : ℕ) → (m ≤ n) ⊎ (n < m)
at_most_or_above m n = grind arith

-- a number of m bits is below no smaller power than 2^m
bits_least : (a m n : ℕ) → 2 ^ m ≤ 2 * a + 1 → a < 2 ^ n → m ≤ n
bits_least a m n h l = elim (at_most_or_above m n) [ inl le ↦ le | inr lt ↦ let p : 2 ^ suc n ≤ 2 ^ m = pow_mono lt in absurd (omega (arith, p, pow-suc 2 n)) ]

pub returns-clause-below : goal.returns-clause-below
returns-clause-below c =
    let (m, exact, above, _) = leading_length 128 c.max-largest.result (omega arith) in
    let e : 128 - count_leading_zeros 128 c.max-largest.result ≡ m = omega arith in
    rw e (record { a_below = omega (arith, ints); b_below = omega (arith, ints); c_below = omega (arith, ints); d_below = omega (arith, ints) })

pub returns-clause-least : goal.returns-clause-least
returns-clause-least c = λ n below.
    let (m, exact, _, within) = leading_length 128 c.max-largest.result (omega arith) in
    let e : 128 - count_leading_zeros 128 c.max-largest.result ≡ m = omega arith in
    rw e (bits_least c.max-largest.result m n within (omega (arith, ints)))
