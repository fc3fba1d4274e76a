-- The turns block is read back: each number stands before the next line feed
use Rattle.std.proofs.Common.{◌≡◌, ℕ, zero, suc, ◌/◌, ◌%◌, ◌≤◌, ◌==◌, Bool, true, false, if◌then◌else◌, List, [], ◌∷◌, ◌++◌, length, codes, decimal, All, refl, sym, ◌∙◌, append_assoc, arith}
use Rattle.std.specs.Fmt.{digits, digits_onto, digit_glyph}
use Rattle.std.proofs.lemmas.Bool.Decides.{nat_tests}
use Rattle.std.proofs.lemmas.Fmt.{decimal_injective}
use Rattle.std.proofs.lemmas.List.Elements.{All-nil, All-cons, All-head, All-tail}
use Rattle.qm_print.specs.Blocks.{IsRankNumber, TurnsLaw, turn_lines, turns_block}

-- a byte between 0 and 9
abbrev IsDigit : ℕ → Type 0
IsDigit b = (48 ≤ b) × (b ≤ 57)

IsDigit-glyph : (n : ℕ) → IsDigit (digit_glyph false (n % 10))
IsDigit-glyph n = (grind (arith, nat_tests), grind (arith, nat_tests))

-- a number, whatever its size, is written in digits alone
All-digits_onto : (k n : ℕ) (acc : List ℕ) → All IsDigit acc → All IsDigit (digits_onto k 10 false n acc)
All-digits_onto zero n acc a = a
All-digits_onto (suc k) n acc a =
    let more = All-cons IsDigit (digit_glyph false (n % 10)) acc (IsDigit-glyph n) a in
    either (n / 10 == 0) _ _ more (All-digits_onto k (n / 10) (digit_glyph false (n % 10) ∷ acc) more)
  where
    either : (b : Bool) (x y : List ℕ) → All IsDigit x → All IsDigit y → All IsDigit (if b then x else y)
    either true x y p q = p
    either false x y p q = q

All-decimal : (n : ℕ) → All IsDigit (decimal n)
unfolding digits
All-decimal n = All-digits_onto 64 n [] (All-nil IsDigit)

-- two texts of digits before a line feed are the same where all is the same, and so is what stands behind it
split_at_feed : (a b x y : List ℕ) → All IsDigit a → All IsDigit b → a ++ 10 ∷ x ≡ b ++ 10 ∷ y → (a ≡ b) × (x ≡ y)
split_at_feed [] [] x y d e h = (refl, cc)
split_at_feed [] (c ∷ b) x y d e h = let digit = All-head IsDigit c b e in let same : c ≡ 10 = cc in absurd (omega (arith, digit))
split_at_feed (c ∷ a) [] x y d e h = let digit = All-head IsDigit c a d in let same : c ≡ 10 = cc in absurd (omega (arith, digit))
split_at_feed (c ∷ a) (f ∷ b) x y d e h =
    let same : c ≡ f = cc in
    let rest : a ++ 10 ∷ x ≡ b ++ 10 ∷ y = cc in
    let both = split_at_feed a b x y (All-tail IsDigit c a d) (All-tail IsDigit f b e) rest in
    let front : a ≡ b = both.0 in
    (cc, both.1)

same_first : (b c : ℕ) (x y : List ℕ) → b ∷ x ≡ c ∷ y → b ≡ c
same_first b c x y h = cc

-- no number stands where the last line does
end_is_no_number : (a x : List ℕ) → All IsDigit a → ¬ (codes "end\n" ≡ a ++ 10 ∷ x)
end_is_no_number [] x d h = let same = same_first 101 10 _ _ h in omega (arith, same)
end_is_no_number (c ∷ a) x d h = let digit = All-head IsDigit c a d in let same = same_first 101 c _ _ h in omega (arith, digit, same)

turn_lines-cons : (r : ℕ) (s : List ℕ) → turn_lines (r ∷ s) ++ codes "end\n" ≡ decimal r ++ 10 ∷ (turn_lines s ++ codes "end\n")
turn_lines-cons r s = simp append_assoc

-- the schedules of the same lines are the same
same_schedule : (s t : List ℕ) → All IsRankNumber s → All IsRankNumber t → turn_lines s ++ codes "end\n" ≡ turn_lines t ++ codes "end\n" → s ≡ t
same_schedule [] [] a b h = refl
same_schedule [] (r ∷ t) a b h = absurd (end_is_no_number (decimal r) _ (All-decimal r) (h ∙ turn_lines-cons r t))
same_schedule (r ∷ s) [] a b h = absurd (end_is_no_number (decimal r) _ (All-decimal r) (sym h ∙ turn_lines-cons r s))
same_schedule (r ∷ s) (q ∷ t) a b h =
    let split = split_at_feed (decimal r) (decimal q) _ _ (All-decimal r) (All-decimal q) (sym (turn_lines-cons r s) ∙ h ∙ turn_lines-cons q t) in
    let small = All-head IsRankNumber r s a in
    let also_small = All-head IsRankNumber q t b in
    let first : r ≡ q = decimal_injective r q (omega (arith, small)) (omega (arith, also_small)) split.0 in
    let rest : s ≡ t = same_schedule s t (All-tail IsRankNumber r s a) (All-tail IsRankNumber q t b) split.1 in
    cc

turns_block-lines : (s : List ℕ) → turns_block s ≡ codes "turns " ++ (decimal (length s) ++ 10 ∷ (turn_lines s ++ codes "end\n"))
turns_block-lines s = simp append_assoc

behind_turns : (x y : List ℕ) → codes "turns " ++ x ≡ codes "turns " ++ y → x ≡ y
behind_turns x y h = cc

pub turns_law : TurnsLaw
turns_law s t a b h =
    let same = behind_turns _ _ (sym (turns_block-lines s) ∙ h ∙ turns_block-lines t) in
    same_schedule s t a b (split_at_feed (decimal (length s)) (decimal (length t)) _ _ (All-decimal (length s)) (All-decimal (length t)) same).1
