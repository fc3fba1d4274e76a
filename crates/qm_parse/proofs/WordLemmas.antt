-- Words, numbers and the table of reserved words
use Rattle.std.proofs.Common.{◌≡◌, ℕ, ◌+◌, ◌-◌, ◌*◌, ◌<◌, ◌≤◌, Bool, true, false, List, [], ◌∷◌, ◌++◌, map, nat_le, Option, Some, None, refl, sym, ap, ◌∙◌, arith, ◌&&◌}
use Rattle.std.specs.Prelude.{fold, find, option_map, count_by, is_some}
use Rattle.std.specs.Option.{option_or}
use Rattle.std.specs.List.{list_all}
use Rattle.std.specs.Str.{bytes_eq}
use Rattle.std.proofs.lemmas.Bool.Decides.{nat_tests}
use Rattle.qm_parse.specs.declared.words.Reserved.{Reserved}
use Rattle.qm_parse.specs.declared.words.Reserved.TheVariants as reserved
use Rattle.qm_parse.specs.declared.table.Entry.{Entry}
use Rattle.qm_parse.specs.declared.table.TheConstants.{WORDS, NEWER}
use Rattle.qm_parse.specs.declared.words.Version.{Version}
use Rattle.qm_parse.specs.declared.words.Version.TheVariants as version
use Rattle.qm_parse.specs.Words.{Word, words, older_words, newer_words, meaning, reserved_of}
use Rattle.qm_parse.specs.Laws.{SameWords, word_in, without_spaces, entry_meaning}
use Rattle.qm_parse.specs.Signs.{word_sign}
use Rattle.qm_parse.specs.Looks.{capped, look_of}
use Rattle.qm_parse.specs.Weights.{HasFewOperands}

-- ---- numbers
abbrev pub with_digit : ℕ → ℕ → ℕ
with_digit n b = 10 * n + (b - 48)

pub capped-small : (n : ℕ) → n ≤ 2147483647 → capped n ≡ n
capped-small n h = grind (arith, nat_tests)

pub capped-large : (n : ℕ) → 2147483647 < n → capped n ≡ 2147483648
capped-large n h = grind (arith, nat_tests)

pub capped-le : (n : ℕ) → capped n ≤ 2147483648
capped-le n = grind (arith, nat_tests)

-- a value that is too large stays so
pub fold-large : (n : ℕ) (bs : List ℕ) → 2147483647 < n → capped (fold with_digit n bs) ≡ 2147483648
fold-large n [] h = capped-large n h
fold-large n (b ∷ bs) h = fold-large (with_digit n b) bs (omega arith)

-- the digits behind a value don't tell it from its cap
pub fold-capped : (n : ℕ) (bs : List ℕ) → capped (fold with_digit (capped n) bs) ≡ capped (fold with_digit n bs)
fold-capped n bs = by_test (nat_le n 2147483647) refl
  where
    by_test : (t : Bool) → nat_le n 2147483647 ≡ t → capped (fold with_digit (capped n) bs) ≡ capped (fold with_digit n bs)
    by_test true e = let small : n ≤ 2147483647 = grind (arith, nat_tests) in ap (λ z. capped (fold with_digit z bs)) (capped-small n small)
    by_test false e =
        let large : 2147483647 < n = grind (arith, nat_tests) in
        let over : 2147483647 < 2147483648 = omega arith in
        ap (λ z. capped (fold with_digit z bs)) (capped-large n large) ∙ fold-large 2147483648 bs over ∙ sym (fold-large n bs large)

-- ---- the table
pub same_words : SameWords
same_words = record { older = refl; newer = refl }

-- a word means the same by entries as by the words that they are
same_meaning : (bytes : List ℕ) (entries : List Entry) → entry_meaning entries bytes ≡ meaning (map word_in entries) bytes
same_meaning bytes [] = refl
same_meaning bytes (e ∷ es) = by_test (same_meaning bytes es) (bytes_eq bytes (without_spaces e.word)) refl
  where
    by_test : entry_meaning es bytes ≡ meaning (map word_in es) bytes → (t : Bool) → bytes_eq bytes (without_spaces e.word) ≡ t
        → entry_meaning (e ∷ es) bytes ≡ meaning (map word_in (e ∷ es)) bytes
    by_test more true t = rw t refl
    by_test more false t = rw t more

-- a word of two tables means what the first says of it, where the first has it
both_tables : (xs ys : List Word) (bytes : List ℕ) → meaning (xs ++ ys) bytes ≡ option_or (meaning xs bytes) (meaning ys bytes)
both_tables [] ys bytes = refl
both_tables (w ∷ ws) ys bytes = by_test (both_tables ws ys bytes) (bytes_eq bytes w.bytes) refl
  where
    by_test : meaning (ws ++ ys) bytes ≡ option_or (meaning ws bytes) (meaning ys bytes) → (t : Bool) → bytes_eq bytes w.bytes ≡ t
        → meaning ((w ∷ ws) ++ ys) bytes ≡ option_or (meaning (w ∷ ws) bytes) (meaning ys bytes)
    by_test more true t = rw t refl
    by_test more false t = rw t more

pub found_word : (bytes : List ℕ) → entry_meaning WORDS bytes ≡ reserved_of version.One bytes
found_word bytes = same_meaning bytes WORDS ∙ ap (λ table. meaning table bytes) same_words.older

pub found_newer : (bytes : List ℕ) → option_or (entry_meaning NEWER bytes) (entry_meaning WORDS bytes) ≡ reserved_of version.Two bytes
found_newer bytes =
    ap (λ o. option_or o (entry_meaning WORDS bytes)) (same_meaning bytes NEWER ∙ ap (λ table. meaning table bytes) same_words.newer)
    ∙ ap (λ o. option_or (meaning newer_words bytes) o) (found_word bytes)
    ∙ sym (both_tables newer_words older_words bytes)

-- each verb of the table has four operands at most
abbrev few : Reserved → Bool
few (reserved.Keyword k) = true
few (reserved.Verb v) = nat_le (count_by is_some v.operands) 4

abbrev FewIn : Option Reserved → Type 0
FewIn None = Unit {0}
FewIn (Some r) = few r ≡ true

pub and-left : (a b : Bool) → a && b ≡ true → a ≡ true
and-left true b e = refl
and-left false b e = e

pub and-right : (a b : Bool) → a && b ≡ true → b ≡ true
and-right true b e = e
and-right false b e = cc

few-found : (bytes : List ℕ) (table : List Word) → list_all (λ w. few w.means) table ≡ true → FewIn (meaning table bytes)
few-found bytes [] e = tt
few-found bytes (w ∷ ws) e = by_test (few-found bytes ws (and-right _ _ e)) (bytes_eq bytes w.bytes) refl
  where
    by_test : FewIn (meaning ws bytes) → (t : Bool) → bytes_eq bytes w.bytes ≡ t → FewIn (meaning (w ∷ ws) bytes)
    by_test more true t = rw t (and-left _ _ e)
    by_test more false t = rw t more

few-words : (v : Version) → list_all (λ w. few w.means) (words v) ≡ true
few-words version.One = refl
few-words version.Two = refl

pub few-word : (v : Version) (word : List ℕ) → HasFewOperands (look_of (word_sign word (reserved_of v word)))
few-word v word = by_meaning (reserved_of v word) (few-found word (words v) (few-words v))
  where
    by_meaning : (o : Option Reserved) → FewIn o → HasFewOperands (look_of (word_sign word o))
    by_meaning None h = tt
    by_meaning (Some (reserved.Keyword k)) h = tt
    by_meaning (Some (reserved.Verb v)) h = let n = count_by is_some v.operands in grind (arith, nat_tests)
