-- Sizes and sums that are small enough to be compared; a component of 2^19 or more alone makes a size too large
use Rattle.std.proofs.Common.{◌≡◌, ℕ, ◌+◌, ℤ, pos, ◌+ℤ◌, ◌≤ℤ◌, ◌*◌, ◌<◌, ◌≤◌, ◌^◌, unsigned_abs, inl, inr, sym, subst, arith, mul-le-mul}
use Rattle.std.proofs.lemmas.Bool.{cases_lt}
use Rattle.std.proofs.lemmas.Int.{ints}
use Rattle.std.proofs.Math.Nat.{pow-le-pow_right}
use Rattle.qm_zomega.specs.Numbers.{Number, norm}
use Rattle.qm_zomega.specs.Range.{IsBelow}
use Rattle.qm_sizes.specs.Parts.{IsSum}
use Rattle.qm_sizes.specs.Sizes.{size}
use Rattle.qm_sizes.specs.Surds.{Surd, surd}
use Rattle.qm_sizes.proofs.Squares.{crossed_within}

small_root : (n k : ℕ) → n * n + k ≤ 2 ^ 37 → n < 2 ^ 19
small_root n k h = elim (cases_lt n (2 ^ 19)) [
  | inl low ↦ low
  | inr high ↦ absurd (let both : 2 ^ 19 * 2 ^ 19 ≤ n * n = mul-le-mul high high in omega (arith, both))
]

pub light_below : (z : Number) → norm z ≤ 2 ^ 37 → IsBelow 19 z
unfolding norm
light_below z h =
    let a = unsigned_abs z.a in
    let b = unsigned_abs z.b in
    let c = unsigned_abs z.c in
    let d = unsigned_abs z.d in
    record {
      a_below = small_root a (b * b + c * c + d * d) (omega (arith, h));
      b_below = small_root b (a * a + c * c + d * d) (omega (arith, h));
      c_below = small_root c (a * a + b * b + d * d) (omega (arith, h));
      d_below = small_root d (a * a + b * b + c * c) (omega (arith, h));
    }

pub still_below : (n : ℕ) (z : Number) → IsBelow n z → n ≤ 19 → IsBelow 19 z
still_below n z h low =
    let more : 2 ^ n ≤ 2 ^ 19 = pow-le-pow_right (omega arith) low in
    record {
      a_below = omega (arith, h.a_below, more);
      b_below = omega (arith, h.b_below, more);
      c_below = omega (arith, h.c_below, more);
      d_below = omega (arith, h.d_below, more);
    }

pub size_few : (z : Number) (s : Surd) → s ≡ size z → s.whole ≤ℤ pos (2 ^ 37) → IsSum s
size_few z s e few = subst IsSum (sym e) (record { low = omega (arith, ints); few = omega (arith, ints, low); root = crossed_within z })
  where
    low : pos (norm z) ≤ℤ pos (2 ^ 37)
    low = subst (λ (t : Surd). t.whole ≤ℤ pos (2 ^ 37)) e few

pub sum_few : (x y : Surd) (p q : ℤ) → IsSum x → IsSum y → p ≡ x.whole +ℤ y.whole → q ≡ x.root +ℤ y.root → p ≤ℤ pos (2 ^ 37) → IsSum (surd p q)
sum_few x y p q h k e f few =
    record {
      low = omega (arith, ints, e, h.low, k.low);
      few = omega (arith, ints, e, few, h.low, k.low);
      root = omega (arith, ints, e, f, h.low, k.low, h.root, k.root);
    }
