-- Lists with an entry for each choice of their places, and the blocks of a place
use Rattle.std.proofs.Common.{◌≡◌, ◌≢◌, ℕ, suc, ◌+◌, ◌-◌, ◌*◌, ◌%◌, ◌<◌, ◌≤◌, ◌^◌, inl, inr, arith, sym, ap, ◌∙◌}
use Rattle.std.proofs.lemmas.Bool.{cases_lt}
use Rattle.std.proofs.lemmas.Nat.{pow_below, pow_pos, pow-add}
use Rattle.std.proofs.Math.Nat.{pow-suc}
use Rattle.std.proofs.Math.Pow.{pow_mono}
use Rattle.qm_denot.specs.Places.{HasPlace}

-- a list in memory has fewer than 64 places
pub place_small : (size p : ℕ) → HasPlace size p → size < 2 ^ 64 → p < 64
place_small size p h small = elim (cases_lt h.places 64) [
  | inl lt ↦ let b = h.below in omega arith
  | inr le ↦ let q : 2 ^ 64 ≤ 2 ^ h.places = pow_mono le in let s = h.size_is in absurd (omega arith)
]

-- and is made of blocks of each of them
pub whole_blocks : (size p half : ℕ) → HasPlace size p → half ≡ 2 ^ p → (m : ℕ) × (size ≡ m * (2 * half))
whole_blocks size p half h e =
    let k = h.places - suc p in
    let b = h.below in
    let n : h.places ≡ k + suc p = omega arith in
    (2 ^ k, h.size_is ∙ ap (λ i. 2 ^ i) n ∙ pow-add 2 k (suc p) ∙ ap (λ i. 2 ^ k * i) (pow-suc 2 p ∙ twice (2 ^ p)) ∙ sym (ap (λ i. 2 ^ k * (2 * i)) e))
  where
    twice : (n : ℕ) → n * 2 ≡ 2 * n
    twice n = omega arith

-- a place below the highest one of a half block
pub lower_place : (size p q : ℕ) → size ≡ 2 ^ p → q < p → HasPlace size q
lower_place size p q e below = record { places = p; size_is = e; below = below }

-- one shifted by a place
pub shifted_one : (p : ℕ) → p < 64 → 1 * 2 ^ p % 18446744073709551616 ≡ 2 ^ p
shifted_one p h = let small : 2 ^ p < 2 ^ 64 = pow_below p 64 h in omega arith

pub some_power : (p n : ℕ) → n ≡ 2 ^ p → n ≢ 0
some_power p n e z = let some = pow_pos p in omega arith
