-- Tokens of texts, by computation
use Rattle.std.specs.Prelude.{◌≡◌, ℕ, [], ◌∷◌, ◌++◌, Ok, Err, codes, refl}
use Rattle.qm_lex.specs.declared.tokens.Token.{Token}
use Rattle.qm_lex.specs.declared.tokens.TokenKind.{TokenKind}
use Rattle.qm_lex.specs.declared.tokens.TokenKind.TheVariants.{Word, Number, Symbol}
use Rattle.qm_lex.specs.Lexing.{tokens_of, end_line}

-- a token from one byte to another, on a line
abbrev token : TokenKind → ℕ → ℕ → ℕ → Token
token kind start stop line = record { kind = kind; start = start; stop = stop; line = line }

empty_text : tokens_of [] ≡ Ok []
empty_text = refl

-- a number ends before a letter, and a word goes on with digits and _
number_then_word : tokens_of (codes "12ab a_1") ≡ Ok (token Number 0 2 1 ∷ token Word 2 4 1 ∷ token Word 5 8 1 ∷ [])
number_then_word = refl

-- two dots are one symbol, between numbers as well
dots : tokens_of (codes "1..2") ≡ Ok (token Number 0 1 1 ∷ token Symbol 1 3 1 ∷ token Number 3 4 1 ∷ [])
dots = refl

-- no token begins with _
lone_underscore : tokens_of (codes "12_") ≡ Err 1
lone_underscore = refl

lone_dot : tokens_of (codes "1.5") ≡ Err 1
lone_dot = refl

-- three dots are two, and a bad byte
three_dots : tokens_of (codes "...") ≡ Err 1
three_dots = refl

-- a comment holds any byte, and ends before its line feed; a carriage return is no line feed
comment : tokens_of (codes "# $ " ++ 255 ∷ 13 ∷ 10 ∷ codes "a # b") ≡ Ok (token Word 7 8 2 ∷ [])
comment = refl

-- the first bad byte decides, by its line
bad_byte : tokens_of (codes "a" ++ 10 ∷ codes "b $" ++ 10 ∷ codes "&") ≡ Err 2
bad_byte = refl

line_of_end : end_line (codes "a" ++ 10 ∷ codes "b" ++ 10 ∷ 10 ∷ []) ≡ 4
line_of_end = refl
