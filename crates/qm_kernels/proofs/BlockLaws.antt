-- A loop over the blocks of a list
use Rattle.std.proofs.Common.{◌≡◌, ℕ, suc, ◌+◌, ◌*◌, ◌<◌, ◌≤◌, List, [], ◌∷◌, ◌++◌, length, take, drop, inl, inr, length-append, append_assoc, append-nil, refl, sym, ap, ap₂, subst, ◌∙◌, arith}
use Rattle.std.proofs.lemmas.Bool.{cases_lt}
use Rattle.std.proofs.lemmas.List.{take-append-drop, nil_from_length}
use Rattle.std.proofs.Math.Nat.{mul-le-mul_right}
use Rattle.qm_kernels.specs.Blocks.{SoFar}

-- lists that begin with parts of one length have equal parts
same_parts : {A : Type 0} (us vs xs ys : List A) → us ++ xs ≡ vs ++ ys → length us ≡ length vs → (us ≡ vs) × (xs ≡ ys)
same_parts [] [] xs ys e h = (refl, e)
same_parts [] (v ∷ vs) xs ys e h = absurd (omega arith)
same_parts (u ∷ us) [] xs ys e h = absurd (omega arith)
same_parts (u ∷ us) (v ∷ vs) xs ys e h =
    let heads : u ≡ v = cc in
    let tails : us ++ xs ≡ vs ++ ys = cc in
    let r = same_parts us vs xs ys tails (omega arith) in
    (ap₂ (λ a zs. a ∷ zs) heads r.0, r.1)

pub turns_left : (m n b : ℕ) → m * b < n * b → m * b + b ≤ n * b
turns_left m n b h = elim (cases_lt m n) [
  | inl lt ↦ let r : (m + 1) * b ≤ n * b = mul-le-mul_right b (let k : m + 1 ≤ n = omega arith in k) in let e : (m + 1) * b ≡ m * b + b = omega arith in omega arith
  | inr le ↦ let r : n * b ≤ m * b = mul-le-mul_right b le in absurd (omega arith)
]

module _ {A : Type 0} (done : List A → List A → Type 0) (block : ℕ) where
  pub at_first : (old : List A) → done [] [] → SoFar done block old old 0
  at_first old none = record { xs = []; us = []; rest = old; turns = 0; old_is = refl; now_is = refl; size_was = refl; size_is = refl; start_is = omega arith; is_done = none }

  module _ (old now : List A) (start m : ℕ) (so_far : SoFar done block old now start) where
    pub same_size : length now ≡ length old
    same_size =
        ap length so_far.now_is ∙ length-append so_far.us so_far.rest
        ∙ omega (arith, so_far.size_is, so_far.size_was) ∙ sym (ap length so_far.old_is ∙ length-append so_far.xs so_far.rest)

    pub one_more_fits : length old ≡ m * block → start < length now → start + block ≤ length now
    one_more_fits size more =
        let e = same_size in
        let s = so_far.start_is in
        let r = turns_left so_far.turns m block (omega arith) in
        omega arith

    pub all_done : length now ≤ start → done old now
    all_done end =
        let n : length so_far.rest ≡ 0 = omega (arith, ap length so_far.now_is, length-append so_far.us so_far.rest, so_far.size_is) in
        let none = nil_from_length so_far.rest n in
        let was : old ≡ so_far.xs = so_far.old_is ∙ ap (λ ys. so_far.xs ++ ys) none ∙ append-nil so_far.xs in
        let is : now ≡ so_far.us = so_far.now_is ∙ ap (λ ys. so_far.us ++ ys) none ∙ append-nil so_far.us in
        subst (λ xs. done xs now) (sym was) (subst (λ us. done so_far.xs us) (sym is) so_far.is_done)

    module _ (front low high tail : List A) (split : now ≡ front ++ (low ++ (high ++ tail))) (at : length front ≡ start) (half : ℕ)
        (low_half : length low ≡ half) (high_half : length high ≡ half) (whole : block ≡ 2 * half) where
      parted : (front ≡ so_far.us) × (low ++ (high ++ tail) ≡ so_far.rest)
      parted = same_parts front so_far.us (low ++ (high ++ tail)) so_far.rest (sym split ∙ so_far.now_is) (at ∙ sym so_far.size_is)

      block_size : length (low ++ high) ≡ block
      block_size = omega (arith, length-append low high)

      old_parts : old ≡ so_far.xs ++ ((low ++ high) ++ tail)
      old_parts = so_far.old_is ∙ ap (λ ys. so_far.xs ++ ys) (sym parted.1 ∙ sym (append_assoc low high tail))

      pub may_here : (may : List A → Type 0)
          → ((n : ℕ) (xs ys : List A) → length xs ≡ n * block → may (xs ++ ys) → may xs × may ys)
          → may old → may (low ++ high)
      may_here may parts all =
          let later = (parts so_far.turns so_far.xs ((low ++ high) ++ tail) (so_far.size_was ∙ so_far.start_is) (subst may old_parts all)).1 in
          (parts 1 (low ++ high) tail (block_size ∙ omega arith) later).0

      pub more : (low2 high2 : List A) → length low2 ≡ length low → length high2 ≡ length high
          → ((n : ℕ) (xs ys us vs : List A) → length xs ≡ n * block → length us ≡ length xs → done xs us → done ys vs → done (xs ++ ys) (us ++ vs))
          → done (low ++ high) (low2 ++ high2)
          → SoFar done block old (front ++ (low2 ++ (high2 ++ tail))) (start + block)
      more low2 high2 same_low same_high joined here = record {
        xs = so_far.xs ++ (low ++ high);
        us = so_far.us ++ (low2 ++ high2);
        rest = tail;
        turns = suc so_far.turns;
        old_is = old_parts ∙ sym (append_assoc so_far.xs (low ++ high) tail);
        now_is = ap (λ us. us ++ (low2 ++ (high2 ++ tail))) parted.0 ∙ ap (λ ys. so_far.us ++ ys) (sym (append_assoc low2 high2 tail)) ∙ sym (append_assoc so_far.us (low2 ++ high2) tail);
        size_was = omega (arith, length-append so_far.xs (low ++ high), so_far.size_was, block_size);
        size_is = omega (arith, length-append so_far.us (low2 ++ high2), length-append low2 high2, so_far.size_is);
        start_is = omega (arith, so_far.start_is);
        is_done = joined so_far.turns so_far.xs (low ++ high) so_far.us (low2 ++ high2) (so_far.size_was ∙ so_far.start_is) (so_far.size_is ∙ sym so_far.size_was) so_far.is_done here;
      }

-- a list is its two parts
pub two_parts : {A : Type 0} (n : ℕ) (xs front back : List A) → front ≡ take n xs → back ≡ drop n xs → xs ≡ front ++ back
two_parts n xs front back e f = sym (take-append-drop n xs) ∙ ap₂ (λ us vs. us ++ vs) (sym e) (sym f)
