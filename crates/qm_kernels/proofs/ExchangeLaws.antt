-- A loop that exchanges the entries of two lists where they have the bit of a place
use Rattle.std.proofs.Common.{◌≡◌, ℕ, suc, ◌+◌, ◌-◌, ◌*◌, ◌<◌, ◌≤◌, ◌^◌, true, false, cond, inl, inr, List, ◌++◌, length, length-append, refl, sym, ap, subst, ◌∙◌, arith}
use Rattle.std.proofs.lemmas.Bool.{cases_lt}
use Rattle.std.proofs.Math.Nat.{pow-suc}
use Rattle.qm_zomega.specs.NumberLists.{seen_at}
use Rattle.qm_denot.specs.Places.{has_place}
use Rattle.qm_kernels.specs.IndexLaws.{has_place-above, low_bit, high_bit}
use Rattle.qm_kernels.specs.DoneLaws.{seen-front, seen-back}
use Rattle.qm_kernels.specs.Done.{ExchangedTo}

-- a list with one part replaced by a part of the same length
module _ {A B : Type 0} (see : A → B) (past : B) (a b b2 c : List A) (n k : ℕ) (front : length a ≡ n) (part : length b ≡ k) (part2 : length b2 ≡ k) where
  pub same_before : (i : ℕ) → i < n → seen_at see past (a ++ (b2 ++ c)) i ≡ seen_at see past (a ++ (b ++ c)) i
  same_before i h = seen-front see past a (b2 ++ c) i (omega arith) ∙ sym (seen-front see past a (b ++ c) i (omega arith))

  pub inside : (r : ℕ) → r < k → seen_at see past (a ++ (b2 ++ c)) (n + r) ≡ seen_at see past b2 r
  inside r h = seen-back see past a (b2 ++ c) n r front ∙ seen-front see past b2 c r (omega arith)

  pub same_after : (i : ℕ) → n + k ≤ i → seen_at see past (a ++ (b2 ++ c)) i ≡ seen_at see past (a ++ (b ++ c)) i
  same_after i h =
      let r = i - (n + k) in
      let e : i ≡ n + (k + r) = omega arith in
      subst (λ j. seen_at see past (a ++ (b2 ++ c)) j ≡ seen_at see past (a ++ (b ++ c)) j) (sym e)
      (seen-back see past a (b2 ++ c) n (k + r) front ∙ seen-back see past b2 c k r part2
      ∙ sym (seen-back see past a (b ++ c) n (k + r) front ∙ seen-back see past b c k r part))

-- the bit of place p in a block of that place
block_bit : (p turns start r : ℕ) → start ≡ turns * (2 * 2 ^ p) → has_place p (start + r) ≡ has_place p r
block_bit p turns start r e =
    let q = pow-suc 2 p in
    let s : turns * (2 * 2 ^ p) ≡ turns * (2 ^ p * 2) = omega arith in
    let t : start ≡ turns * 2 ^ suc p = rw q (e ∙ s) in
    rw t (has_place-above p (suc p) turns r (omega arith))

module _ {A : Type 0} (past : A) (p : ℕ) (one other : List A) where
  pub exchanged_none : ExchangedTo past p one other one 0
  exchanged_none = record { size = refl; before = λ i h. absurd (omega arith); after = λ i h. refl }

  module _ (now now2 a b c a2 b2 c2 : List A) (start turns : ℕ) (first : ExchangedTo past p one other now start) (second : ExchangedTo past p other one now2 start)
      (parts : now ≡ a ++ (b ++ c)) (parts2 : now2 ≡ a2 ++ (b2 ++ c2)) (at : length a ≡ start + 2 ^ p) (at2 : length a2 ≡ start + 2 ^ p)
      (size : length b ≡ 2 ^ p) (size2 : length b2 ≡ 2 ^ p) (whole : start ≡ turns * (2 * 2 ^ p)) where
    abbrev seen : List A → ℕ → A
    seen xs i = seen_at (λ x. x) past xs i

    -- in the exchanged part stands what the other list has there
    taken_over : (r : ℕ) → r < 2 ^ p → seen (a ++ (b2 ++ c)) (start + 2 ^ p + r) ≡ seen other (start + 2 ^ p + r)
    taken_over r h =
        inside (λ x. x) past a b b2 c (start + 2 ^ p) (2 ^ p) at size size2 r h
        ∙ sym (inside (λ x. x) past a2 b2 b2 c2 (start + 2 ^ p) (2 ^ p) at2 size2 size2 r h)
        ∙ ap (λ xs. seen xs (start + 2 ^ p + r)) (sym parts2)
        ∙ second.after (start + 2 ^ p + r) (omega arith)

    abbrev wanted : ℕ → A
    wanted i = cond (has_place p i) (seen other i) (seen one i)

    low_part : (r : ℕ) → r < 2 ^ p → seen (a ++ (b2 ++ c)) (start + r) ≡ wanted (start + r)
    low_part r h =
        let bit : has_place p (start + r) ≡ false = block_bit p turns start r whole ∙ low_bit p r h in
        same_before (λ x. x) past a b b2 c (start + 2 ^ p) (2 ^ p) at size size2 (start + r) (omega arith)
        ∙ ap (λ xs. seen xs (start + r)) (sym parts) ∙ first.after (start + r) (omega arith)
        ∙ ap (λ t. cond t (seen other (start + r)) (seen one (start + r))) (sym bit)

    high_part : (r : ℕ) → r < 2 ^ p → seen (a ++ (b2 ++ c)) (start + 2 ^ p + r) ≡ wanted (start + 2 ^ p + r)
    high_part r h =
        let e : start + 2 ^ p + r ≡ start + (2 ^ p + r) = omega arith in
        let bit : has_place p (start + 2 ^ p + r) ≡ true = ap (has_place p) e ∙ block_bit p turns start (2 ^ p + r) whole ∙ high_bit p r h in
        taken_over r h ∙ ap (λ t. cond t (seen other (start + 2 ^ p + r)) (seen one (start + 2 ^ p + r))) (sym bit)

    pub exchanged_more : ExchangedTo past p one other (a ++ (b2 ++ c)) (start + 2 * 2 ^ p)
    exchanged_more = record {
      size = length-append a (b2 ++ c) ∙ omega (arith, length-append b2 c, length-append b c, length-append a (b ++ c), ap length parts, first.size);
      before = λ i h. elim (cases_lt i start) [
        | inl lt ↦
            same_before (λ x. x) past a b b2 c (start + 2 ^ p) (2 ^ p) at size size2 i (omega arith)
            ∙ ap (λ xs. seen xs i) (sym parts) ∙ first.before i lt
        | inr le ↦ elim (cases_lt i (start + 2 ^ p)) [
          | inl lt ↦ let e : i ≡ start + (i - start) = omega arith in subst (λ j. seen (a ++ (b2 ++ c)) j ≡ wanted j) (sym e) (low_part (i - start) (omega arith))
          | inr past_half ↦
              let e : i ≡ start + 2 ^ p + (i - (start + 2 ^ p)) = omega arith in
              subst (λ j. seen (a ++ (b2 ++ c)) j ≡ wanted j) (sym e) (high_part (i - (start + 2 ^ p)) (omega arith))
        ]
      ];
      after = λ i h.
          same_after (λ x. x) past a b b2 c (start + 2 ^ p) (2 ^ p) at size size2 i (omega arith)
          ∙ ap (λ xs. seen xs i) (sym parts) ∙ first.after i (omega arith);
    }
