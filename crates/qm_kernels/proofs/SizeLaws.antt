-- Letters that change how many places a list has
use Rattle.std.proofs.Common.{◌≡◌, ℕ, zero, suc, ◌+◌, ◌-◌, ◌*◌, ◌/◌, ◌%◌, ◌<◌, ◌≤◌, ◌^◌, Bool, true, false, inl, inr, List, [], ◌∷◌, ◌++◌, length, get_or, refl, sym, ap, subst, ◌∙◌, arith}
use Rattle.std.proofs.lemmas.Bool.{cases_lt}
use Rattle.std.proofs.Math.Nat.{pow-suc}
use Rattle.std.specs.List.{CopiedTo, SameBelow, SameFrom}
use Rattle.qm_zomega.specs.NumberLists.{seen_at}
use Rattle.qm_denot.specs.Circuits.{same_bit}
use Rattle.qm_denot.specs.Places.{bit_of, has_place, set_place, insert_place}
use Rattle.qm_denot.specs.LettersByPlace.{pair_at}
use Rattle.qm_kernels.specs.Done.{GatheredTo}
use Rattle.qm_kernels.specs.IndexLaws.{has_place-above, set_place-above, low_bit, high_bit, low_kept, high_lowered, doubled}
use Rattle.qm_kernels.specs.DoneLaws.{seen-front, seen-back}
use Rattle.qm_kernels.proofs.BlockLaws.{turns_left}

-- ---- gathering
insert_place-block : (p t r : ℕ) (b : Bool) → r < 2 ^ p → insert_place p b (t * 2 ^ p + r) ≡ 2 * (t * 2 ^ p) + bit_of b * 2 ^ p + r
insert_place-block zero t r b h = omega arith
insert_place-block (suc p) t r b h =
    let d = doubled t p in
    let e = doubled (bit_of b) p in
    let half : (2 * (t * 2 ^ p) + r) / 2 ≡ t * 2 ^ p + r / 2 = omega arith in
    let rest : (2 * (t * 2 ^ p) + r) % 2 ≡ r % 2 = omega arith in
    let k = insert_place-block p t (r / 2) b (let q = pow-suc 2 p in omega arith) in
    rw (d, e, half, rest, k) (omega arith)

pub gather_fits : (start size half t m kept : ℕ) → start ≡ t * half → size ≡ m * (2 * half) → start < size / 2 → kept ≤ half → 2 * start + kept + half ≤ size
gather_fits start size half t m kept e f h k = let r = turns_left t m half (omega arith) in omega arith

seen-is : {A : Type 0} (past : A) (xs : List A) (k : ℕ) → seen_at (λ x. x) past xs k ≡ get_or xs k past
seen-is past [] k = refl
seen-is past (x ∷ xs) zero = refl
seen-is past (x ∷ xs) (suc k) = seen-is past xs k

module _ {A : Type 0} (past : A) (p : ℕ) (m : Bool) (old : List A) where
  pub gathered_none : GatheredTo past p m old old 0
  gathered_none = record { before = λ i h. absurd (omega arith); after = λ i h. refl }

  pub gathered_more : (now new : List A) (start t from n : ℕ) → GatheredTo past p m old now start → start ≡ t * 2 ^ p → from ≡ 2 * start + bit_of m * 2 ^ p → n ≡ 2 ^ p
      → CopiedTo now new from start n → SameBelow now new start → SameFrom now new (start + n) → GatheredTo past p m old new (start + 2 ^ p)
  gathered_more now new start t from n so_far at source size copied below above = record {
    before = λ i h. elim (cases_lt i start) [
      | inl lt ↦ seen-is past new i ∙ below i past lt ∙ sym (seen-is past now i) ∙ so_far.before i lt
      | inr le ↦
          let r = i - start in
          let index : i ≡ t * 2 ^ p + r = omega arith in
          let place : insert_place p m i ≡ from + r = ap (insert_place p m) index ∙ insert_place-block p t r m (omega arith) ∙ omega arith in
          seen-is past new i ∙ copied i past le (omega arith) ∙ sym (seen-is past now (from + r)) ∙ so_far.after (from + r) (omega arith)
          ∙ ap (seen_at (λ x. x) past old) (sym place)
    ];
    after = λ i h. seen-is past new i ∙ above i past (omega arith) ∙ sym (seen-is past now i) ∙ so_far.after i (omega arith);
  }

-- ---- pairing
-- a list whose last quarter is as the first
module _ {A : Type 0} (past : A) (n : ℕ) (first middle last : List A) (first_size : length first ≡ 2 ^ n) (middle_size : length middle ≡ 2 * 2 ^ n) where
  pub quarters_kept : (i : ℕ) → i < 3 * 2 ^ n → seen_at (λ x. x) past (first ++ (middle ++ first)) i ≡ seen_at (λ x. x) past (first ++ (middle ++ last)) i
  quarters_kept i h = elim (cases_lt i (2 ^ n)) [
    | inl lt ↦ seen-front (λ x. x) past first (middle ++ first) i (omega arith) ∙ sym (seen-front (λ x. x) past first (middle ++ last) i (omega arith))
    | inr le ↦
        let r = i - 2 ^ n in
        let e : 2 ^ n + r ≡ i = omega arith in
        subst (λ j. seen_at (λ x. x) past (first ++ (middle ++ first)) j ≡ seen_at (λ x. x) past (first ++ (middle ++ last)) j) e
        (seen-back (λ x. x) past first (middle ++ first) (2 ^ n) r first_size ∙ seen-front (λ x. x) past middle first r (omega arith)
        ∙ sym (seen-back (λ x. x) past first (middle ++ last) (2 ^ n) r first_size ∙ seen-front (λ x. x) past middle last r (omega arith)))
  ]

  pub quarter_copied : (r : ℕ) → r < 2 ^ n → seen_at (λ x. x) past (first ++ (middle ++ first)) (3 * 2 ^ n + r) ≡ seen_at (λ x. x) past (first ++ (middle ++ last)) r
  quarter_copied r h =
      let e : 2 ^ n + (2 * 2 ^ n + r) ≡ 3 * 2 ^ n + r = omega arith in
      subst (λ j. seen_at (λ x. x) past (first ++ (middle ++ first)) j ≡ seen_at (λ x. x) past (first ++ (middle ++ last)) r) e
      (seen-back (λ x. x) past first (middle ++ first) (2 ^ n) (2 * 2 ^ n + r) first_size ∙ seen-back (λ x. x) past middle first (2 * 2 ^ n) r middle_size
      ∙ sym (seen-front (λ x. x) past first (middle ++ last) r (omega arith)))

-- where the last three quarters were zero, that is what `Pair` makes
module _ {B : Type 0} (o : B) (n : ℕ) (before after : ℕ → B) (kept : (i : ℕ) → i < 3 * 2 ^ n → after i ≡ before i)
    (copied : (r : ℕ) → r < 2 ^ n → after (3 * 2 ^ n + r) ≡ before r) (zeros : (i : ℕ) → 2 ^ n ≤ i → before i ≡ o) where
  above : 2 ^ (n + 1) ≡ 2 * 2 ^ n
  above = let e : n + 1 ≡ suc n = omega arith in rw e (let q = pow-suc 2 n in omega arith)

  -- what `Pair` makes, quarter by quarter
  unequal : (i : ℕ) (a b : Bool) → has_place n i ≡ a → has_place (n + 1) i ≡ b → same_bit a b ≡ false → pair_at o n before i ≡ o
  unequal i a b e f s = rw (e, f, s) refl

  equal : (i r : ℕ) (a b : Bool) → has_place n i ≡ a → has_place (n + 1) i ≡ b → same_bit a b ≡ true
      → set_place (n + 1) false (set_place n false i) ≡ r → pair_at o n before i ≡ before r
  equal i r a b e f s index = rw (e, f, s, index) refl

  pair_first : (i : ℕ) → i < 2 ^ n → pair_at o n before i ≡ before i
  pair_first i h =
      let wide : i < 2 ^ (n + 1) = omega (arith, above) in
      equal i i false false (low_bit n i h) (low_bit (n + 1) i wide) refl (ap (set_place (n + 1) false) (low_kept n i h) ∙ low_kept (n + 1) i wide)

  pair_second : (r : ℕ) → r < 2 ^ n → pair_at o n before (2 ^ n + r) ≡ o
  pair_second r h = unequal (2 ^ n + r) true false (high_bit n r h) (low_bit (n + 1) (2 ^ n + r) (omega (arith, above))) refl

  lower_bit : (r : ℕ) → has_place n (2 ^ (n + 1) + r) ≡ has_place n r
  lower_bit r = let one : 1 * 2 ^ (n + 1) + r ≡ 2 ^ (n + 1) + r = omega arith in subst (λ k. has_place n k ≡ has_place n r) one (has_place-above n (n + 1) 1 r (omega arith))

  pair_third : (r : ℕ) → r < 2 ^ n → pair_at o n before (2 ^ n + (2 ^ n + r)) ≡ o
  pair_third r h =
      let index : 2 ^ n + (2 ^ n + r) ≡ 2 ^ (n + 1) + r = omega (arith, above) in
      ap (pair_at o n before) index
      ∙ unequal (2 ^ (n + 1) + r) false true (lower_bit r ∙ low_bit n r h) (high_bit (n + 1) r (omega (arith, above))) refl

  pair_last : (r : ℕ) → r < 2 ^ n → pair_at o n before (2 ^ n + (2 * 2 ^ n + r)) ≡ before r
  pair_last r h =
      let k = 2 ^ n + r in
      let index : 2 ^ n + (2 * 2 ^ n + r) ≡ 2 ^ (n + 1) + k = omega (arith, above) in
      let one : 1 * 2 ^ (n + 1) + k ≡ 2 ^ (n + 1) + k = omega arith in
      let small : k < 2 ^ (n + 1) = omega (arith, above) in
      let cleared : set_place n false (2 ^ (n + 1) + k) ≡ 2 ^ (n + 1) + r =
      subst (λ j. set_place n false j ≡ 2 ^ (n + 1) + r) one (set_place-above n (n + 1) 1 k false (omega arith) ∙ let low = high_lowered n r h in omega arith) in
      ap (pair_at o n before) index
      ∙ equal (2 ^ (n + 1) + k) r true true (lower_bit k ∙ high_bit n r h) (high_bit (n + 1) k small) refl
      (ap (set_place (n + 1) false) cleared ∙ high_lowered (n + 1) r (omega arith))

  pub pair_done : (i : ℕ) → i < 4 * 2 ^ n → after i ≡ pair_at o n before i
  pair_done i h = elim (cases_lt i (2 ^ n)) [
    | inl lt ↦ kept i (omega arith) ∙ sym (pair_first i lt)
    | inr le ↦ elim (cases_lt i (2 ^ n + 2 ^ n)) [
      | inl lt ↦
          let r = i - 2 ^ n in
          let e : 2 ^ n + r ≡ i = omega arith in
          kept i (omega arith) ∙ zeros i le ∙ sym (subst (λ j. pair_at o n before j ≡ o) e (pair_second r (omega arith)))
      | inr more ↦ elim (cases_lt i (2 ^ n + 2 * 2 ^ n)) [
        | inl lt ↦
            let r = i - (2 ^ n + 2 ^ n) in
            let e : 2 ^ n + (2 ^ n + r) ≡ i = omega arith in
            kept i (omega arith) ∙ zeros i le ∙ sym (subst (λ j. pair_at o n before j ≡ o) e (pair_third r (omega arith)))
        | inr most ↦
            let r = i - (2 ^ n + 2 * 2 ^ n) in
            let e : 2 ^ n + (2 * 2 ^ n + r) ≡ i = omega arith in
            let f : 3 * 2 ^ n + r ≡ i = omega arith in
            subst (λ j. after j ≡ pair_at o n before i) f (copied r (omega arith) ∙ sym (subst (λ j. pair_at o n before j ≡ before r) e (pair_last r (omega arith))))
      ]
    ]
  ]

-- a list of 2^(n + 2) entries in quarters
pub quarter : (n size : ℕ) → size ≡ 2 ^ (n + 2) → size ≡ 4 * 2 ^ n
quarter n size e = let f : n + 2 ≡ suc (suc n) = omega arith in let q = pow-suc 2 (suc n) in let r = pow-suc 2 n in e ∙ ap (λ k. 2 ^ k) f ∙ omega arith
