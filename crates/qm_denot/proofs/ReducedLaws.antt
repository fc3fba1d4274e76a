-- Vectors over powers of root2, and their reduced forms
use Rattle.std.proofs.Common.{◌≡◌, ℕ, ◌+◌, ◌-◌, ◌<◌, ◌≤◌, true, false, cond, List, refl, sym, ap, ◌∙◌, arith}
use Rattle.qm_zomega.specs.declared.Zw.{Zw}
use Rattle.qm_zomega.specs.Numbers.{Number, zero_number, root2_of, root2_times}
use Rattle.qm_zomega.proofs.Laws.Powers.{root2_times-more, root2_times-zero}
use Rattle.qm_denot.specs.declared.Wire.{Wire}
use Rattle.qm_denot.specs.Wires.{Wires}
use Rattle.qm_denot.specs.Places.{index_of, is_within}
use Rattle.qm_denot.specs.ListStores.{listed_value}
use Rattle.qm_zomega.specs.NumberLists.{number_at, Reduces, IsReducedList}

module _ (made new : List Zw) (k m : ℕ) (reduces : Reduces made k new m) where
  -- the values over root2^m are those over root2^k
  pub listed_value-reduced : (live : List Wire) (x : Wires) → root2_times k (listed_value live new x) ≡ root2_times m (listed_value live made x)
  listed_value-reduced live x =
      let apart : k ≡ m + (k - m) = let h = reduces.lower in omega arith in
      ap (λ n. root2_times n (listed_value live new x)) apart ∙ root2_times-more m (k - m) (listed_value live new x)
      ∙ ap (root2_times m) (elim (is_within x live) as (λ b. root2_times (k - m) (cond b (number_at new (index_of live x)) zero_number) ≡ cond b (number_at made (index_of live x)) zero_number) [
        | true ↦ reduces.same (index_of live x)
        | false ↦ root2_times-zero (k - m)
      ])

-- one more division by root2
pub root2_times-once_more : (k m : ℕ) (u v z : Number) → 0 < m → m ≤ k → root2_of u ≡ v → root2_times (k - m) v ≡ z → root2_times (k - (m - 1)) u ≡ z
root2_times-once_more k m u v z some le e f =
    let n : k - (m - 1) ≡ (k - m) + 1 = omega arith in
    rw n (root2_times-more (k - m) 1 u ∙ ap (root2_times (k - m)) e ∙ f)

-- a vector of zeros has the exponent 0
pub Reduces-zeros : (zs : List Zw) (k : ℕ) → ((i : ℕ) → number_at zs i ≡ zero_number) → Reduces zs k zs 0
Reduces-zeros zs k zeros = record {
  size = refl;
  lower = omega arith;
  same = λ i. ap (root2_times (k - 0)) (zeros i) ∙ root2_times-zero (k - 0) ∙ sym (zeros i);
  reduced = λ some. absurd (some refl);
}

-- a vector that is reduced already
pub Reduces-itself : (zs : List Zw) (k : ℕ) → IsReducedList zs k → Reduces zs k zs k
Reduces-itself zs k reduced = record { size = refl; lower = omega arith; same = λ i. let e : k - k ≡ 0 = omega arith in rw e refl; reduced = reduced }
