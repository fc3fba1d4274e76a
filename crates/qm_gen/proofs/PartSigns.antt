-- Numbers and outcomes in lines
use Rattle.std.proofs.Common.{◌≡◌, ℕ, zero, suc, ◌+◌, ◌-◌, ◌*◌, ◌/◌, ◌%◌, ◌<◌, ◌≤◌, ◌^◌, nat_le, Bool, true, false, cond, ◌&&◌, List, [], ◌∷◌, ◌++◌, length, take, drop, map, Some, None, refl, sym, ◌∙◌, ap, subst, arith}
use Rattle.std.specs.Prelude.{decimal, codes, if◌then◌else◌}
use Rattle.std.specs.List.{prefix_len, list_all}
use Rattle.std.proofs.lemmas.List.Sums.{fold-append}
use Rattle.std.proofs.lemmas.List.Folds.{list_all-append}
use Rattle.std.proofs.lemmas.Bool.{and_parts, leb-true}
use Rattle.std.proofs.lemmas.Fmt.{decimal_by_steps}
use Rattle.qm_lex.specs.declared.tokens.TokenKind.TheVariants as kind
use Rattle.qm_lex.specs.Bytes.{is_digit, is_word_byte}
use Rattle.qm_parse.specs.declared.words.Version.TheVariants as version
use Rattle.qm_parse.specs.Words.{value_of, bits_word, reserved_of}
use Rattle.qm_parse.specs.declared.words.Keyword.TheVariants as keyword
use Rattle.qm_parse.specs.Signs.{Number, Key, Ident, word_sign, sign}
use Rattle.qm_parse.specs.Spelling.{tape_signs}
use Rattle.qm_gen.specs.Made.{with_number}
use Rattle.qm_gen.proofs.LineSigns.{Take, front, with_sign, behind_front, line_signs}

-- ---- numbers
-- the digits of a number: they are digits, and have its value
record Spells (n : ℕ) (ds : List ℕ) : Type 0 where
  first : ℕ
  rest : List ℕ
  are : ds ≡ first ∷ rest
  digits : list_all is_digit ds ≡ true
  value : value_of ds ≡ n

-- what holds of each of the ten digits
by_digit : (P : ℕ → Type 0) → P 0 → P 1 → P 2 → P 3 → P 4 → P 5 → P 6 → P 7 → P 8 → P 9 → (n : ℕ) → n < 10 → P n
by_digit P a b c d e f g h i j zero l = a
by_digit P a b c d e f g h i j (suc zero) l = b
by_digit P a b c d e f g h i j (suc (suc zero)) l = c
by_digit P a b c d e f g h i j (suc (suc (suc zero))) l = d
by_digit P a b c d e f g h i j (suc (suc (suc (suc zero)))) l = e
by_digit P a b c d e f g h i j (suc (suc (suc (suc (suc zero))))) l = f
by_digit P a b c d e f g h i j (suc (suc (suc (suc (suc (suc zero)))))) l = g
by_digit P a b c d e f g h i j (suc (suc (suc (suc (suc (suc (suc zero))))))) l = h
by_digit P a b c d e f g h i j (suc (suc (suc (suc (suc (suc (suc (suc zero)))))))) l = i
by_digit P a b c d e f g h i j (suc (suc (suc (suc (suc (suc (suc (suc (suc zero))))))))) l = j
by_digit P a b c d e f g h i j (suc (suc (suc (suc (suc (suc (suc (suc (suc (suc n)))))))))) l = absurd (omega arith)

digit-is : (n : ℕ) → n < 10 → is_digit (48 + n) ≡ true
digit-is = by_digit (λ n. is_digit (48 + n) ≡ true) refl refl refl refl refl refl refl refl refl refl

digit-front : (n : ℕ) → n < 10 → (xs : List ℕ) → front (48 + n) xs ≡ Take kind.Number (prefix_len is_digit xs)
digit-front = by_digit (λ n. (xs : List ℕ) → front (48 + n) xs ≡ Take kind.Number (prefix_len is_digit xs)) (λ xs. refl) (λ xs. refl) (λ xs. refl) (λ xs. refl) (λ xs. refl) (λ xs. refl) (λ xs. refl) (λ xs. refl) (λ xs. refl) (λ xs. refl)

and_true : (a b : Bool) → a ≡ true → b ≡ true → (a && b) ≡ true
and_true a b d e = ap (λ x. x && b) d ∙ e

spells-one : (n : ℕ) → n < 10 → Spells n ((48 + n) ∷ [])
spells-one n l = record { first = 48 + n; rest = []; are = refl; digits = and_true (is_digit (48 + n)) true (digit-is n l) refl; value = omega arith }

spells-more : (n : ℕ) (ds : List ℕ) → 10 ≤ n → Spells (n / 10) ds → Spells n (ds ++ ((48 + n % 10) ∷ []))
spells-more n ds l s =
    let low : n % 10 < 10 = omega arith in
    let is : ds ++ ((48 + n % 10) ∷ []) ≡ s.first ∷ (s.rest ++ ((48 + n % 10) ∷ [])) = ap (λ x. x ++ ((48 + n % 10) ∷ [])) s.are in
    let step : value_of (ds ++ ((48 + n % 10) ∷ [])) ≡ 10 * value_of ds + (48 + n % 10 - 48) = fold-append (λ m b. 10 * m + (b - 48)) 0 ds ((48 + n % 10) ∷ []) in
    let all : list_all is_digit (ds ++ ((48 + n % 10) ∷ [])) ≡ true =
    list_all-append is_digit ds ((48 + n % 10) ∷ []) ∙ and_true (list_all is_digit ds) (list_all is_digit ((48 + n % 10) ∷ [])) s.digits (and_true (is_digit (48 + n % 10)) true (digit-is (n % 10) low) refl)
    in
    let v = s.value in
    record { first = s.first; rest = s.rest ++ ((48 + n % 10) ∷ []); are = is; digits = all; value = omega (arith, step, v) }

decimal-spells : (n : ℕ) → n < 2 ^ 64 → Spells n (decimal n)
decimal-spells = decimal_by_steps Spells spells-one spells-more

-- ---- what passes a test to its end
prefix-all : (p : ℕ → Bool) (xs : List ℕ) (c : ℕ) (ys : List ℕ) → list_all p xs ≡ true → p c ≡ false → prefix_len p (xs ++ c ∷ ys) ≡ length xs
prefix-all p [] c ys all stop = ap (λ b. cond b (1 + prefix_len p ys) 0) stop
prefix-all p (x ∷ xs) c ys all stop =
    let parts = and_parts (p x) (list_all p xs) all in
    ap (λ b. cond b (1 + prefix_len p (xs ++ c ∷ ys)) 0) parts.0 ∙ ap (λ k. 1 + k) (prefix-all p xs c ys parts.1 stop) ∙ omega arith

prefix-whole : (p : ℕ → Bool) (xs : List ℕ) → list_all p xs ≡ true → prefix_len p xs ≡ length xs
prefix-whole p [] all = refl
prefix-whole p (x ∷ xs) all =
    let parts = and_parts (p x) (list_all p xs) all in
    ap (λ b. cond b (1 + prefix_len p xs) 0) parts.0 ∙ ap (λ k. 1 + k) (prefix-whole p xs parts.1) ∙ omega arith

take-front : (xs ys : List ℕ) → take (length xs) (xs ++ ys) ≡ xs
take-front [] ys = refl
take-front (x ∷ xs) ys = ap (λ t. x ∷ t) (take-front xs ys)

drop-front : (xs ys : List ℕ) → drop (length xs) (xs ++ ys) ≡ ys
drop-front [] ys = refl
drop-front (x ∷ xs) ys = drop-front xs ys

first-digit : (b : ℕ) (xs : List ℕ) → is_digit b ≡ true → front b xs ≡ Take kind.Number (prefix_len is_digit xs)
first-digit b xs h =
    let parts = and_parts (nat_le 48 b) (nat_le b 57) h in
    let low : 48 ≤ b = leb-true 48 b parts.0 in
    let high : b ≤ 57 = leb-true b 57 parts.1 in
    let is : 48 + (b - 48) ≡ b = omega arith in
    subst (λ (c : ℕ). front c xs ≡ Take kind.Number (prefix_len is_digit xs)) is (digit-front (b - 48) (omega arith) xs)

-- a number in a line, with no digit behind it
digits_signs : (n k c : ℕ) (ds xs : List ℕ) → Spells n ds → is_digit c ≡ false → line_signs (suc k) (ds ++ c ∷ xs) ≡ with_sign (Number n) (line_signs k (c ∷ xs))
digits_signs n k c ds xs s stop =
    let parts = and_parts (is_digit s.first) (list_all is_digit s.rest) (subst (λ (x : List ℕ). list_all is_digit x ≡ true) s.are s.digits) in
    let tail : List ℕ = s.rest ++ c ∷ xs in
    let here : front s.first tail ≡ Take kind.Number (length s.rest) = first-digit s.first tail parts.0 ∙ ap (λ j. Take kind.Number j) (prefix-all is_digit s.rest c xs parts.1 stop) in
    let value : value_of (s.first ∷ s.rest) ≡ n = ap value_of (sym s.are) ∙ s.value in
    ap (λ x. line_signs (suc k) (x ++ c ∷ xs)) s.are
    ∙ ap (behind_front (line_signs k) s.first tail) here
    ∙ ap (λ x. with_sign (Number (value_of (s.first ∷ x))) (line_signs k (drop (length s.rest) tail))) (take-front s.rest (c ∷ xs))
    ∙ ap (λ x. with_sign (Number (value_of (s.first ∷ s.rest))) (line_signs k x)) (drop-front s.rest (c ∷ xs))
    ∙ ap (λ v. with_sign (Number v) (line_signs k (c ∷ xs))) value

pub number_signs : (n k c : ℕ) (xs : List ℕ) → n < 2 ^ 64 → is_digit c ≡ false → line_signs (suc k) (decimal n ++ c ∷ xs) ≡ with_sign (Number n) (line_signs k (c ∷ xs))
number_signs n k c xs small stop = digits_signs n k c (decimal n) xs (decimal-spells n small) stop

-- ---- outcomes
outcome-bytes : (ms : List Bool) → list_all is_word_byte (map (λ m. if m then 49 else 48) ms) ≡ true
outcome-bytes [] = refl
outcome-bytes (true ∷ ms) = outcome-bytes ms
outcome-bytes (false ∷ ms) = outcome-bytes ms

-- a word of outcomes isn't reserved
pub outcomes-free : (ms : List Bool) → reserved_of version.One (bits_word ms) ≡ None
outcomes-free [] = refl
outcomes-free (true ∷ ms) = refl
outcomes-free (false ∷ ms) = refl

-- a word of outcomes at the end of a line
pub outcomes_signs : (k : ℕ) (ms : List Bool) → line_signs (suc (suc k)) (32 ∷ bits_word ms) ≡ Some (Ident (bits_word ms) ∷ [])
outcomes_signs k ms =
    let ds : List ℕ = map (λ m. if m then 49 else 48) ms in
    let here : front 98 ds ≡ Take kind.Word (length ds) = ap (λ j. Take kind.Word j) (prefix-whole is_word_byte ds (outcome-bytes ms)) in
    ap (behind_front (line_signs k) 98 ds) here
    ∙ ap (λ x. with_sign (sign version.One kind.Word (98 ∷ x)) (line_signs k (drop (length ds) ds))) (take_whole ds)
    ∙ ap (λ x. with_sign (sign version.One kind.Word (98 ∷ ds)) (line_signs k x)) (drop_whole ds)
    ∙ ap (λ o. Some (word_sign (98 ∷ ds) o ∷ [])) (outcomes-free ms)
  where
    take_whole : (xs : List ℕ) → take (length xs) xs ≡ xs
    take_whole [] = refl
    take_whole (x ∷ xs) = ap (λ t. x ∷ t) (take_whole xs)

    drop_whole : (xs : List ℕ) → drop (length xs) xs ≡ []
    drop_whole [] = refl
    drop_whole (x ∷ xs) = drop_whole xs

-- ---- lines
-- the line of a tape
pub tape_line_signs : (own : Bool) (rank : ℕ) (ms : List Bool) → rank < 2 ^ 64 → line_signs 12 (with_number (if own then codes "own " else codes "protocol ") rank (codes " " ++ bits_word ms)) ≡ Some (tape_signs (record { own = own; rank = rank; outcomes = ms }))
tape_line_signs true rank ms small =
    ap (with_sign (Key keyword.Own)) (number_signs rank 9 32 (bits_word ms) small refl ∙ ap (with_sign (Number rank)) (outcomes_signs 7 ms))
tape_line_signs false rank ms small =
    ap (with_sign (Key keyword.Protocol)) (number_signs rank 9 32 (bits_word ms) small refl ∙ ap (with_sign (Number rank)) (outcomes_signs 7 ms))
