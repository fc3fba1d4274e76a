-- How deep a place of the tree is
use Rattle.std.proofs.Common.{◌≡◌, ◌≢◌, ◌∙◌, ℕ, zero, suc, ◌+◌, ◌*◌, ◌-◌, ◌/◌, ◌^◌, ◌<◌, ◌≤◌, ap, arith}
use Rattle.std.proofs.Math.Nat.{pow-suc}
use Rattle.qm_tree.specs.Trees.{place_above, IsDepth}

-- a place that is so many copies from the root lies between two powers of two, less 1
pub between : (v d : ℕ) → IsDepth v d → (2 ^ d ≤ v + 1) × (v + 1 < 2 ^ (d + 1))
between v zero h = (omega (arith, h), omega (arith, h))
between v (suc d) h =
    let above = between (place_above v) d h.1 in
    let some : v ≢ 0 = h.0 in
    let low : 2 ^ d ≤ (v - 1) / 2 + 1 = above.0 in
    let high : (v - 1) / 2 + 1 < 2 ^ (d + 1) = above.1 in
    let p : 2 ^ suc d ≡ 2 ^ d * 2 = pow-suc 2 d in
    let next : suc d + 1 ≡ suc (d + 1) = omega arith in
    let q : 2 ^ (suc d + 1) ≡ 2 ^ (d + 1) * 2 = ap (λ n. 2 ^ n) next ∙ pow-suc 2 (d + 1) in
    rw (p, q) (omega (arith, some, low, high), omega (arith, some, low, high))
