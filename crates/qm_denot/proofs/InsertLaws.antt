-- A bit put into an index, in closed form, and how large the index grows
use Rattle.std.proofs.Common.{◌≡◌, ℕ, zero, suc, ◌+◌, ◌-◌, ◌*◌, ◌/◌, ◌%◌, ◌^◌, ◌<◌, ◌≤◌, Bool, true, false, sym, ap, ◌∙◌, refl, arith}
use Rattle.std.proofs.lemmas.Nat.{mod-pow-add}
use Rattle.std.proofs.Math.Nat.{pow-suc, pow-succ', div-div-eq-div-mul}
use Rattle.qm_denot.specs.Places.{bit_of, insert_place, HasPlace}

one_more : (a b p low r : ℕ) → r + 2 * ((a * 2 + b) * p + low) ≡ (a * 2 + b) * (p * 2) + (low * 2 + r)
one_more a b p low r = omega arith

pub insert_place-closed : (p : ℕ) (b : Bool) (k : ℕ) → insert_place p b k ≡ (k / 2 ^ p * 2 + bit_of b) * 2 ^ p + k % 2 ^ p
insert_place-closed zero b k = omega arith
insert_place-closed (suc p) b k =
    let high : k / 2 ^ suc p ≡ k / 2 / 2 ^ p = let e : 2 ^ suc p ≡ 2 * 2 ^ p = pow-succ' 2 p in rw e (sym (div-div-eq-div-mul k 2 (2 ^ p))) in
    let low : k % 2 ^ suc p ≡ (k / 2 % 2 ^ p) * 2 + k % 2 = let e : suc p ≡ p + 1 = omega arith in ap (λ n. k % 2 ^ n) e ∙ mod-pow-add k p 1 in
    let double : 2 ^ suc p ≡ 2 ^ p * 2 = pow-suc 2 p in
    let r = insert_place-closed p b (k / 2) in
    ap (λ n. k % 2 + 2 * n) r ∙ one_more (k / 2 / 2 ^ p) (bit_of b) (2 ^ p) (k / 2 % 2 ^ p) (k % 2) ∙ rw (high, low, double) refl

insert_place_below : (p : ℕ) (b : Bool) (k n : ℕ) → p ≤ n → k < 2 ^ n → insert_place p b k < 2 ^ suc n
insert_place_below zero b k n h l = let e = pow-suc 2 n in elim b as (λ b. bit_of b + 2 * k < 2 ^ suc n) [ true ↦ omega arith | false ↦ omega arith ]
insert_place_below (suc p) b k zero h l = absurd (omega arith)
insert_place_below (suc p) b k (suc n) h l =
    let e = pow-suc 2 n in let f = pow-suc 2 (suc n) in let r = insert_place_below p b (k / 2) n (omega arith) (omega arith) in omega arith

-- an index with a bit put in at one of the list's places is an index of the list
pub insert_place_within : (size p k r : ℕ) (b : Bool) → HasPlace size p → k < size / 2 → r ≡ insert_place p b k → r < size
insert_place_within size p k r b h below e =
    let n = h.places - 1 in
    let more : h.places ≡ suc n = let l = h.below in omega arith in
    let double : size ≡ 2 ^ suc n = h.size_is ∙ ap (λ i. 2 ^ i) more in
    rw (e, double) (insert_place_below p b k n (let l = h.below in omega arith) (let d = pow-suc 2 n in omega arith))
