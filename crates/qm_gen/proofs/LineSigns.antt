-- The signs of a line, without places: what each token of the line says
use Rattle.std.proofs.Common.{◌≡◌, ℕ, zero, suc, ◌+◌, ◌-◌, ◌≤◌, Bool, true, false, cond, List, [], ◌∷◌, ◌++◌, length, map, take, drop, Option, Some, None, Result, Ok, Err, refl, ◌∙◌, ap, arith, length-drop}
use Rattle.std.specs.Prelude.{if◌then◌else◌, ◌==◌, take_while}
use Rattle.std.specs.List.{prefix_len}
use Rattle.std.proofs.lemmas.List.Folds.{length-prefix_len}
use Rattle.qm_lex.specs.declared.tokens.Token.{Token}
use Rattle.qm_lex.specs.declared.tokens.TokenKind.{TokenKind}
use Rattle.qm_lex.specs.declared.tokens.TokenKind.TheVariants.{Word, Number, Symbol}
use Rattle.qm_lex.specs.Bytes.{is_blank, is_digit, is_letter, is_word_byte, is_symbol, is_comment_byte}
use Rattle.qm_lex.specs.Pieces.{begins_with}
use Rattle.qm_lex.specs.Lexing.{with_first, line_after, behind, tokens_from}
use Rattle.qm_parse.specs.declared.words.Version.TheVariants as version
use Rattle.qm_parse.specs.Signs.{Sign, sign, bytes_of, sign_of}

-- what stands at the front of a line behind its first byte: so many bytes more of a gap or of a token
pub data Front : Type 0 where
  Skip : (more : ℕ) → Front
  Take : (kind : TokenKind) (more : ℕ) → Front
  Nothing : Front

abbrev pub front : ℕ → List ℕ → Front
front b xs =
    if is_blank b then Skip 0
    else if b == 35 then Skip (prefix_len is_comment_byte xs)
    else if is_letter b then Take Word (prefix_len is_word_byte xs)
    else if is_digit b then Take Number (prefix_len is_digit xs)
    else if is_symbol b then Take Symbol 0
    else if b == 46 then (if begins_with 46 xs then Take Symbol 1 else Nothing)
    else Nothing

abbrev pub with_sign : Sign → Option (List Sign) → Option (List Sign)
with_sign s None = None
with_sign s (Some ss) = Some (s ∷ ss)

abbrev pub behind_front : (List ℕ → Option (List Sign)) → ℕ → List ℕ → Front → Option (List Sign)
behind_front more b xs (Skip k) = more (drop k xs)
behind_front more b xs (Take kind k) = with_sign (sign version.One kind (b ∷ take k xs)) (more (drop k xs))
behind_front more b xs Nothing = None

-- the signs of a line; the bound is any number that is no less than its gaps and tokens
abbrev pub line_signs : ℕ → List ℕ → Option (List Sign)
line_signs n [] = Some []
line_signs zero (b ∷ xs) = None
line_signs (suc n) (b ∷ xs) = behind_front (line_signs n) b xs (front b xs)

-- ---- a line feed ends whatever stands before it
prefix-stops : (p : ℕ → Bool) (xs rest : List ℕ) → p 10 ≡ false → prefix_len p (xs ++ 10 ∷ rest) ≡ prefix_len p xs
prefix-stops p [] rest stop = ap (λ b. cond b (1 + prefix_len p rest) 0) stop
prefix-stops p (x ∷ xs) rest stop = ap (λ k. cond (p x) (1 + k) 0) (prefix-stops p xs rest stop)

while-stops : (p : ℕ → Bool) (xs rest : List ℕ) → p 10 ≡ false → length (take_while p (xs ++ 10 ∷ rest)) ≡ prefix_len p xs
while-stops p xs rest stop = length-prefix_len p (xs ++ 10 ∷ rest) ∙ prefix-stops p xs rest stop

prefix-within : (p : ℕ → Bool) (xs : List ℕ) → prefix_len p xs ≤ length xs
prefix-within p [] = omega arith
prefix-within p (x ∷ xs) = by_test (p x) (prefix-within p xs)
  where
    by_test : (b : Bool) → prefix_len p xs ≤ length xs → cond b (1 + prefix_len p xs) 0 ≤ suc (length xs)
    by_test true h = omega arith
    by_test false h = omega arith

begins-stops : (xs rest : List ℕ) → begins_with 46 (xs ++ 10 ∷ rest) ≡ begins_with 46 xs
begins-stops [] rest = refl
begins-stops (x ∷ xs) rest = refl

-- what is read behind a front
abbrev pub lexed_behind : ℕ → ℕ → ℕ → ℕ → List ℕ → Front → Result (List Token) ℕ
lexed_behind n at line b rest (Skip k) = tokens_from n (at + (k + 1)) (line_after b line) (drop (k + 1) (b ∷ rest))
lexed_behind n at line b rest (Take kind k) =
    with_first (record { kind = kind; start = at; stop = at + (k + 1); line = line }) (tokens_from n (at + (k + 1)) line (drop (k + 1) (b ∷ rest)))
lexed_behind n at line b rest Nothing = Err line

same_if : {P R : Type 0} (g : P → R) (h : Front → R) (a b : Bool) (p q : P) (f k : Front) → a ≡ b → g p ≡ h f → g q ≡ h k → g (if a then p else q) ≡ h (if b then f else k)
same_if {P} {R} g h a b p q f k same d e = by_test b same
  where
    by_test : (c : Bool) → a ≡ c → g (if a then p else q) ≡ h (if c then f else k)
    by_test true s = ap (λ (x : Bool). g (if x then p else q)) s ∙ d
    by_test false s = ap (λ (x : Bool). g (if x then p else q)) s ∙ e

lexed-front : (n at line b : ℕ) (xs rest : List ℕ) → tokens_from (suc n) at line (b ∷ (xs ++ 10 ∷ rest)) ≡ lexed_behind n at line b (xs ++ 10 ∷ rest) (front b xs)
lexed-front n at line b xs rest =
    let h : Front → Result (List Token) ℕ = lexed_behind n at line b (xs ++ 10 ∷ rest) in
    same_if (behind (tokens_from n) at line b (xs ++ 10 ∷ rest)) h (is_blank b) (is_blank b) _ _ _ _ refl refl
    (same_if (behind (tokens_from n) at line b (xs ++ 10 ∷ rest)) h (b == 35) (b == 35) _ _ _ _ refl (ap (λ k. h (Skip k)) (while-stops is_comment_byte xs rest refl))
    (same_if (behind (tokens_from n) at line b (xs ++ 10 ∷ rest)) h (is_letter b) (is_letter b) _ _ _ _ refl (ap (λ k. h (Take Word k)) (while-stops is_word_byte xs rest refl))
    (same_if (behind (tokens_from n) at line b (xs ++ 10 ∷ rest)) h (is_digit b) (is_digit b) _ _ _ _ refl (ap (λ k. h (Take Number k)) (while-stops is_digit xs rest refl))
    (same_if (behind (tokens_from n) at line b (xs ++ 10 ∷ rest)) h (is_symbol b) (is_symbol b) _ _ _ _ refl refl
    (same_if (behind (tokens_from n) at line b (xs ++ 10 ∷ rest)) h (b == 46) (b == 46) _ _ _ _ refl
    (same_if (behind (tokens_from n) at line b (xs ++ 10 ∷ rest)) h (begins_with 46 (xs ++ 10 ∷ rest)) (begins_with 46 xs) _ _ _ _ (begins-stops xs rest) refl refl) refl)))))

-- ---- and what stands there lies in the line
unfoldable pub IsWithin : Front → ℕ → Type 0
IsWithin (Skip k) n = k ≤ n
IsWithin (Take kind k) n = k ≤ n
IsWithin Nothing n = Unit {0}

within_if : (b : Bool) (f g : Front) (n : ℕ) → IsWithin f n → IsWithin g n → IsWithin (if b then f else g) n
within_if true f g n h k = h
within_if false f g n h k = k

dots-within : (xs : List ℕ) → IsWithin (if begins_with 46 xs then Take Symbol 1 else Nothing) (length xs)
unfolding IsWithin
dots-within [] = tt
dots-within (x ∷ xs) = let one : 1 ≤ suc (length xs) = omega arith in within_if (x == 46) (Take Symbol 1) Nothing (suc (length xs)) one tt

pub front-within : (b : ℕ) (xs : List ℕ) → IsWithin (front b xs) (length xs)
unfolding IsWithin
front-within b xs =
    let none : 0 ≤ length xs = omega arith in
    within_if (is_blank b) _ _ _ none
    (within_if (b == 35) _ _ _ (prefix-within is_comment_byte xs)
    (within_if (is_letter b) _ _ _ (prefix-within is_word_byte xs)
    (within_if (is_digit b) _ _ _ (prefix-within is_digit xs)
    (within_if (is_symbol b) _ _ _ none
    (within_if (b == 46) _ _ _ (dots-within xs) tt)))))

-- ---- tokens
-- from a place in the whole text on it has tokens with these signs
pub record IsLexed (whole : List ℕ) (m at line : ℕ) (text : List ℕ) (ss : List Sign) : Type 0 where
  pub tokens : List Token
  pub lexes : tokens_from m at line text ≡ Ok tokens
  pub signs : map (sign_of version.One whole) tokens ≡ ss

unfoldable pub HasSigns : List ℕ → ℕ → List ℕ → List Sign → Type 0
HasSigns whole at text ss = (m line : ℕ) → length text ≤ m → IsLexed whole m at line text ss

pub gap-lexed : (whole : List ℕ) (at b k : ℕ) (xs rest : List ℕ) (ss : List Sign) → front b xs ≡ Skip k → HasSigns whole (at + (k + 1)) (drop (k + 1) (b ∷ (xs ++ 10 ∷ rest))) ss → HasSigns whole at (b ∷ (xs ++ 10 ∷ rest)) ss
unfolding HasSigns
gap-lexed whole at b k xs rest ss e h zero line few = absurd (omega arith)
gap-lexed whole at b k xs rest ss e h (suc n) line few =
    let more = h n (line_after b line) (omega (arith, length-drop (k + 1) (b ∷ (xs ++ 10 ∷ rest)))) in
    record {
      tokens = more.tokens;
      lexes = lexed-front n at line b xs rest ∙ ap (lexed_behind n at line b (xs ++ 10 ∷ rest)) e ∙ more.lexes;
      signs = more.signs;
    }

pub part-lexed : (whole : List ℕ) (at b k : ℕ) (kind : TokenKind) (xs rest : List ℕ) (ss : List Sign) → front b xs ≡ Take kind k → drop at whole ≡ b ∷ (xs ++ 10 ∷ rest) → HasSigns whole (at + (k + 1)) (drop (k + 1) (b ∷ (xs ++ 10 ∷ rest))) ss → HasSigns whole at (b ∷ (xs ++ 10 ∷ rest)) (sign version.One kind (take (k + 1) (b ∷ (xs ++ 10 ∷ rest))) ∷ ss)
unfolding HasSigns
part-lexed whole at b k kind xs rest ss e there h zero line few = absurd (omega arith)
part-lexed whole at b k kind xs rest ss e there h (suc n) line few =
    let text : List ℕ = b ∷ (xs ++ 10 ∷ rest) in
    let more = h n line (omega (arith, length-drop (k + 1) text)) in
    let t : Token = record { kind = kind; start = at; stop = at + (k + 1); line = line } in
    let wide : (at + (k + 1)) - at ≡ k + 1 = omega arith in
    let bytes : bytes_of whole t ≡ take (k + 1) text = ap (λ j. take j (drop at whole)) wide ∙ ap (take (k + 1)) there in
    record {
      tokens = t ∷ more.tokens;
      lexes = lexed-front n at line b xs rest ∙ ap (lexed_behind n at line b (xs ++ 10 ∷ rest)) e ∙ ap (with_first t) more.lexes;
      signs = ap (λ x. sign version.One kind x ∷ map (sign_of version.One whole) more.tokens) bytes ∙ ap (λ x. sign version.One kind (take (k + 1) text) ∷ x) more.signs;
    }
