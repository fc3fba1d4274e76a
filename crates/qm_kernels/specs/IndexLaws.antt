-- Bits of an index that is a multiple of a power of two and a rest
use Rattle.std.proofs.Common.{◌≡◌, ℕ, zero, suc, ◌+◌, ◌*◌, ◌/◌, ◌%◌, ◌<◌, ◌^◌, Bool, true, false, refl, arith}
use Rattle.std.proofs.Math.Nat.{pow-suc}
use Rattle.qm_denot.specs.Places.{bit_of, has_place, set_place}
use Rattle.qm_denot.proofs.PlaceLaws.{place_kept, place_added, place_cleared}

-- a multiple of a higher power is twice a multiple of the power below
pub doubled : (m e : ℕ) → m * 2 ^ suc e ≡ 2 * (m * 2 ^ e)
doubled m e = let p = pow-suc 2 e in let q : m * (2 ^ e * 2) ≡ 2 * (m * 2 ^ e) = omega arith in rw p q

-- ---- a place below those of the multiple
pub has_place-above : (p e m r : ℕ) → p < e → has_place p (m * 2 ^ e + r) ≡ has_place p r
has_place-above p zero m r h = absurd (omega arith)
has_place-above zero (suc e) m r h =
    let d = doubled m e in
    let s : (2 * (m * 2 ^ e) + r) % 2 ≡ r % 2 = omega arith in
    rw (d, s) refl
has_place-above (suc p) (suc e) m r h =
    let d = doubled m e in
    let s : (2 * (m * 2 ^ e) + r) / 2 ≡ m * 2 ^ e + r / 2 = omega arith in
    rw (d, s) (has_place-above p e m (r / 2) (omega arith))

pub set_place-above : (p e m r : ℕ) (b : Bool) → p < e → set_place p b (m * 2 ^ e + r) ≡ m * 2 ^ e + set_place p b r
set_place-above p zero m r b h = absurd (omega arith)
set_place-above zero (suc e) m r b h =
    let d = doubled m e in
    let s : (2 * (m * 2 ^ e) + r) / 2 ≡ m * 2 ^ e + r / 2 = omega arith in
    rw (d, s) (omega arith)
set_place-above (suc p) (suc e) m r b h =
    let d = doubled m e in
    let s : (2 * (m * 2 ^ e) + r) / 2 ≡ m * 2 ^ e + r / 2 = omega arith in
    let t : (2 * (m * 2 ^ e) + r) % 2 ≡ r % 2 = omega arith in
    let u = set_place-above p e m (r / 2) b (omega arith) in
    rw (d, s, t, u) (omega arith)

pub set_place-near : (p e m r : ℕ) (b : Bool) → p < e → r < m * 2 ^ e → set_place p b r < m * 2 ^ e
set_place-near p zero m r b h l = absurd (omega arith)
set_place-near zero (suc e) m r b h l =
    let d = doubled m e in
    elim b as (λ b. bit_of b + 2 * (r / 2) < m * 2 ^ suc e) [ true ↦ omega arith | false ↦ omega arith ]
set_place-near (suc p) (suc e) m r b h l =
    let d = doubled m e in
    let u = set_place-near p e m (r / 2) b (omega arith) (omega arith) in
    omega arith

-- ---- the two halves of a block
pub low_bit : (p i : ℕ) → i < 2 ^ p → has_place p i ≡ false
low_bit zero i h = let e : i ≡ 0 = omega arith in rw e refl
low_bit (suc p) i h = low_bit p (i / 2) (let e = pow-suc 2 p in omega arith)

pub high_bit : (p r : ℕ) → r < 2 ^ p → has_place p (2 ^ p + r) ≡ true
high_bit zero r h = let e : r ≡ 0 = omega arith in rw e refl
high_bit (suc p) r h =
    let e = pow-suc 2 p in
    let s : (2 ^ p * 2 + r) / 2 ≡ 2 ^ p + r / 2 = omega arith in
    rw (e, s) (high_bit p (r / 2) (omega arith))

pub low_kept : (p i : ℕ) → i < 2 ^ p → set_place p false i ≡ i
low_kept p i h = place_kept p i false (low_bit p i h)

pub low_raised : (p i : ℕ) → i < 2 ^ p → set_place p true i ≡ 2 ^ p + i
low_raised p i h = let e = place_added p i (low_bit p i h) in omega arith

pub high_kept : (p r : ℕ) → r < 2 ^ p → set_place p true (2 ^ p + r) ≡ 2 ^ p + r
high_kept p r h = place_kept p (2 ^ p + r) true (high_bit p r h)

pub high_lowered : (p r : ℕ) → r < 2 ^ p → set_place p false (2 ^ p + r) ≡ r
high_lowered p r h = let e = place_cleared p (2 ^ p + r) (high_bit p r h) in omega arith
