-- What one pass over a store's numbers adds up
use Rattle.std.proofs.Common.{◌≡◌, ℕ, zero, suc, ◌+◌, ◌<◌, ◌≤◌, ◌^◌, pos, Bool, true, false, cond, List, length, unsigned_abs, refl, ap, ◌∙◌, arith}
use Rattle.std.proofs.lemmas.Int.{ints}
use Rattle.std.proofs.Math.Nat.{lt_of_not-le}
use Rattle.qm_zomega.specs.Numbers.{Number, norm}
use Rattle.qm_sizes.specs.Surds.{Surd, plus}
use Rattle.qm_sizes.specs.Sizes.{size}
use Rattle.qm_sizes.proofs.Orders.{same}
use Rattle.qm_denot.specs.declared.Wire.{Wire}
use Rattle.qm_denot.specs.Wires.{has, no_wires}
use Rattle.qm_denot.specs.WireLists.{Distinct}
use Rattle.qm_denot.specs.Circuits.{Amplitudes}
use Rattle.qm_denot.specs.Places.{set_at}
use Rattle.qm_denot.specs.Weights.{total}
use Rattle.qm_proto.specs.Model.Totals.{sum_below}
use Rattle.qm_sample.specs.Shares.{all_sizes, sizes_with}
use Rattle.qm_sample.proofs.IndexSums.{sum_below-more, sum_below-set_at}
use Rattle.qm_sample.proofs.ShareLaws.{marked_size}
use Rattle.qm_sample.proofs.SurdTotals.{surds_below, surds_below-set_at}

-- the size of the number at an index, and the same where w is one, else 0
abbrev pub size_at : List Wire → Amplitudes → ℕ → Surd
size_at live u k = size (u (set_at live k))

abbrev pub marked_at : List Wire → Wire → Amplitudes → ℕ → Surd
marked_at live w u k = marked_size (has (set_at live k) w) (u (set_at live k))

-- these are the sums over the first n indices
pub record IsPassed (live : List Wire) (w : Wire) (u : Amplitudes) (n : ℕ) (all marked : Surd) : Type 0 where
  pub all_sum : all ≡ surds_below (size_at live u) n
  pub marked_sum : marked ≡ surds_below (marked_at live w u) n

-- a number that is marked is added, and else none
added : (b : Bool) (x : Surd) (z : Number) → cond b (plus x (size z)) x ≡ plus x (marked_size b z)
added true x z = refl
added false x z = same (omega (arith, ints)) (omega (arith, ints))

module _ (live : List Wire) (w : Wire) (u : Amplitudes) where
  abbrev norm_at : ℕ → ℕ
  norm_at k = norm (u (set_at live k))

  -- the whole part of a sum of sizes is the sum of the norms
  whole_below : (n : ℕ) → (surds_below (size_at live u) n).whole ≡ pos (sum_below norm_at n)
  whole_below zero = refl
  whole_below (suc n) = let rest = whole_below n in rw rest (omega (arith, ints))

  module _ (n : ℕ) (all marked : Surd) (passed : IsPassed live w u n all marked) where
    whole_passed : unsigned_abs all.whole ≡ sum_below norm_at n
    whole_passed = ap (λ (x : Surd). unsigned_abs x.whole) passed.all_sum ∙ ap unsigned_abs (whole_below n)

    -- with the number at one index more
    module _ {z : Number} (here : z ≡ u (set_at live n)) where
      pub one_more : {b : Bool} {all' marked' : Surd} → all' ≡ plus all (size z) → marked' ≡ cond b (plus marked (size z)) marked
          → b ≡ has (set_at live n) w → IsPassed live w u (suc n) all' marked'
      one_more {b} a m bit =
          let before = passed.all_sum in
          let marked_before = passed.marked_sum in
          record {
            all_sum = a ∙ rw (before, here) refl;
            marked_sum = m ∙ added b marked z ∙ rw (marked_before, here, bit) refl;
          }

      -- where it makes the sum too large, so do all
      pub too_large : Distinct live → n < 2 ^ length live → ¬ (unsigned_abs all.whole + norm z ≤ 2 ^ 37)
          → 2 ^ 37 < total live (λ x. norm (u x)) no_wires
      too_large d below large =
          let last = ap norm here in
          let more = sum_below-more norm_at (suc n) (2 ^ length live) (omega arith) in
          let end = sum_below-set_at live (λ x. norm (u x)) d in
          let so : 2 ^ 37 < unsigned_abs all.whole + norm z = lt_of_not-le large in
          omega (arith, whole_passed, last, more, end, so)

  -- at the end
  module _ (all marked : Surd) (d : Distinct live) (passed : IsPassed live w u (2 ^ length live) all marked) where
    pub whole_at_end : unsigned_abs all.whole ≡ total live (λ x. norm (u x)) no_wires
    whole_at_end = whole_passed (2 ^ length live) all marked passed ∙ sum_below-set_at live (λ x. norm (u x)) d

    pub all_at_end : all ≡ all_sizes live u
    all_at_end = passed.all_sum ∙ surds_below-set_at live (λ x. size (u x)) d

    pub marked_at_end : marked ≡ sizes_with live w u
    marked_at_end = passed.marked_sum ∙ surds_below-set_at live (λ x. marked_size (has x w) (u x)) d
