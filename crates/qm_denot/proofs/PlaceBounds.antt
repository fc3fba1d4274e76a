-- How many places a list of limited size can have
use Rattle.std.proofs.Common.{◌≡◌, ℕ, suc, Bool, ◌<◌, ◌≤◌, ◌^◌, inl, inr, arith}
use Rattle.std.proofs.lemmas.Bool.{cases_lt}
use Rattle.std.proofs.lemmas.Nat.{pow_pos}
use Rattle.std.proofs.Math.Nat.{pow-suc}
use Rattle.std.proofs.Math.Pow.{pow_mono}
use Rattle.qm_denot.specs.Places.{set_place, HasPlace}
use Rattle.qm_denot.proofs.PlaceLaws.{set_place_below}

-- a list of limited size has few places
pub places_few : (m n : ℕ) → 2 ^ m ≤ 2 ^ n → m ≤ n
places_few m n h = elim (cases_lt n m) [ inl lt ↦ let p : 2 ^ suc n ≤ 2 ^ m = pow_mono lt in absurd (omega (arith, p, pow-suc 2 n, pow_pos n)) | inr le ↦ le ]

-- a place of a list of limited size
pub place_fits : (size p : ℕ) → HasPlace size p → size ≤ 2 ^ 22 → p < 22
place_fits size p h small = let few = places_few h.places 22 (let e = h.size_is in omega arith) in let b = h.below in omega arith

-- an index with a bit set at one of the list's places is an index of the list
pub set_place_within : (size p k r : ℕ) (b : Bool) → HasPlace size p → k < size → r ≡ set_place p b k → r < size
set_place_within size p k r b h below e = rw (e, h.size_is) (set_place_below p b k h.places h.below (let s = h.size_is in omega arith))

-- a list with a number for each choice of so many places is small, and fits where there is room for the capacity
pub size_small : (size places top : ℕ) → size ≡ 2 ^ places → places ≤ top → top ≤ 22 → size ≤ 2 ^ 22
size_small size places top e few small = let all : places ≤ 22 = omega arith in let p : 2 ^ places ≤ 2 ^ 22 = pow_mono all in omega arith

pub size_fits : (size places top room : ℕ) → size ≡ 2 ^ places → places ≤ top → 2 ^ top ≤ room → size ≤ room
size_fits size places top room e few enough = let p : 2 ^ places ≤ 2 ^ top = pow_mono few in omega arith
