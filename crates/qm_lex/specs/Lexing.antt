-- The tokens of a text, or the line of its first bad byte
use Rattle.std.specs.Prelude.{◌≡◌, ℕ, zero, suc, ◌+◌, List, [], ◌∷◌, length, drop, if◌then◌else◌, ◌==◌, Result, Ok, Err, count_by}
use Rattle.qm_lex.specs.declared.tokens.Token.{Token}
use Rattle.qm_lex.specs.declared.tokens.Tokens.{Tokens}
use Rattle.qm_lex.specs.declared.lexer.LexError.{LexError}
use Rattle.qm_lex.specs.declared.lexer.LexError.TheVariants.{BadByte, Memory}
use Rattle.qm_lex.specs.declared.lexer.Piece.{Piece}
use Rattle.qm_lex.specs.declared.lexer.Piece.TheVariants.{Gap, Part, Bad}
use Rattle.qm_lex.specs.Pieces.{piece_at}

-- a token before the others
abbrev pub with_first : Token → Result (List Token) ℕ → Result (List Token) ℕ
with_first t (Ok ts) = Ok (t ∷ ts)
with_first t (Err line) = Err line

-- one line further behind a line feed
abbrev pub line_after : ℕ → ℕ → ℕ
line_after b line = if b == 10 then line + 1 else line

-- a piece, and then what the rest of the text has, by rest_from
abbrev pub behind : (ℕ → ℕ → List ℕ → Result (List Token) ℕ) → ℕ → ℕ → ℕ → List ℕ → Piece → Result (List Token) ℕ
behind rest_from at line b rest (Gap len) = rest_from (at + len) (line_after b line) (drop len (b ∷ rest))
behind rest_from at line b rest (Part kind len) =
    with_first (record { kind = kind; start = at; stop = at + len; line = line }) (rest_from (at + len) line (drop len (b ∷ rest)))
behind rest_from at line b rest Bad = Err line

-- from a place in the text on, piece by piece; the bound on pieces is any number that is no less than the bytes left
abbrev pub tokens_from : ℕ → ℕ → ℕ → List ℕ → Result (List Token) ℕ
tokens_from n at line [] = Ok []
tokens_from zero at line (b ∷ rest) = Err line
tokens_from (suc n) at line (b ∷ rest) = behind (tokens_from n) at line b rest (piece_at b rest)

-- the tokens of a text, whose first line is 1, or the line of its first bad byte
abbrev pub tokens_of : List ℕ → Result (List Token) ℕ
tokens_of text = tokens_from (length text) 0 1 text

-- one more than the number of line feeds
abbrev pub end_line : List ℕ → ℕ
end_line text = count_by (λ b. b == 10) text + 1

-- the tokens in their order
abbrev pub token_list : Tokens → List Token
token_list tokens = tokens.items.items

-- what lexing a text may answer
abbrev pub Lexes : List ℕ → Result Tokens LexError → Type 0
Lexes text (Ok tokens) = tokens_of text ≡ Ok (token_list tokens)
Lexes text (Err (BadByte line)) = tokens_of text ≡ Err line
Lexes text (Err Memory) = Unit {0}
