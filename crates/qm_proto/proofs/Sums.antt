-- Sums over the ranks
use Rattle.std.proofs.Common.{◌≡◌, ◌≢◌, ℕ, zero, suc, ◌+◌, ◌<◌, ◌≤◌, List, length, take, get_or, inl, inr, sym, ap, subst, ◌∙◌, refl, arith, add-one}
use Rattle.std.proofs.Math.Seq.{take-length}
use Rattle.std.proofs.lemmas.List.Sums.{sum_by_more}
use Rattle.std.specs.Prelude.{sum_by}
use Rattle.qm_proto.proofs.Meetings.{same_or_below}
use Rattle.qm_proto.specs.Model.Totals.{sum_below}

pub sum_below-same : (f g : ℕ → ℕ) (n : ℕ) → ((k : ℕ) → k < n → f k ≡ g k) → sum_below f n ≡ sum_below g n
sum_below-same f g zero each = refl
sum_below-same f g (suc n) each =
    let rest = sum_below-same f g n (λ k h. each k (omega arith)) in
    let last = each n (omega arith) in
    omega arith

pub sum_below-none : (f : ℕ → ℕ) (n : ℕ) → ((k : ℕ) → f k ≡ 0) → sum_below f n ≡ 0
sum_below-none f zero each = refl
sum_below-none f (suc n) each = let rest = sum_below-none f n each in omega (arith, each n)

pub sum_below-le : (f g : ℕ → ℕ) (n : ℕ) → ((k : ℕ) → k < n → f k ≤ g k) → sum_below f n ≤ sum_below g n
sum_below-le f g zero each = omega arith
sum_below-le f g (suc n) each =
    let rest = sum_below-le f g n (λ k h. each k (omega arith)) in
    let last = each n (omega arith) in
    omega arith

-- one term less, and no other more
pub sum_below-lt : (f g : ℕ → ℕ) (n r : ℕ) → ((k : ℕ) → k < n → f k ≤ g k) → r < n → f r < g r → sum_below f n < sum_below g n
sum_below-lt f g zero r each known less = absurd (omega arith)
sum_below-lt f g (suc n) r each known less = elim (same_or_below r n known) [
  | inl e ↦
      let rest = sum_below-le f g n (λ k h. each k (omega arith)) in
      let last = subst (λ k. f k < g k) e less in
      omega arith
  | inr below ↦
      let rest = sum_below-lt f g n r (λ k h. each k (omega arith)) below less in
      let last = each n (omega arith) in
      omega arith
]

-- one term larger by one, and each other the same
pub sum_below-one_more : (f g : ℕ → ℕ) (n r : ℕ) → r < n → g r ≡ f r + 1 → ((k : ℕ) → k ≢ r → g k ≡ f k) → sum_below g n ≡ sum_below f n + 1
sum_below-one_more f g zero r known here others = absurd (omega arith)
sum_below-one_more f g (suc n) r known here others = elim (same_or_below r n known) [
  | inl e ↦
      let rest = sum_below-same g f n (λ k h. others k (λ s. absurd (omega arith))) in
      let last = subst (λ k. g k ≡ f k + 1) e here in
      omega arith
  | inr below ↦
      let rest = sum_below-one_more f g n r below here others in
      let last = others n (λ s. absurd (omega arith)) in
      omega arith
]

sum_by-below : {A : Type 0} (h : A → ℕ) (xs : List A) (d : A) (n : ℕ) → n ≤ length xs → sum_by h (take n xs) ≡ sum_below (λ k. h (get_or xs k d)) n
sum_by-below h xs d zero within = refl
sum_by-below h xs d (suc n) within =
    let more = rw add-one at (sum_by_more h xs n d (omega arith)) in
    let rest = sum_by-below h xs d n (omega arith) in
    omega arith

-- a sum over a list is one over its places
pub sum_by-is_below : {A : Type 0} (h : A → ℕ) (xs : List A) (d : A) → sum_by h xs ≡ sum_below (λ k. h (get_or xs k d)) (length xs)
sum_by-is_below h xs d = ap (sum_by h) (sym (take-length xs)) ∙ sum_by-below h xs d (length xs) (omega arith)
