-- What stands at the front of a text
use Rattle.std.specs.Prelude.{◌≡◌, ℕ, ◌+◌, ◌≤◌, ◌<◌, Bool, false, List, [], ◌∷◌, length, take_while, if◌then◌else◌, ◌==◌}
use Rattle.qm_lex.specs.declared.tokens.TokenKind.TheVariants.{Word, Number, Symbol}
use Rattle.qm_lex.specs.declared.lexer.Piece.{Piece}
use Rattle.qm_lex.specs.declared.lexer.Piece.TheVariants.{Gap, Part, Bad}
use Rattle.qm_lex.specs.Bytes.{is_blank, is_digit, is_letter, is_word_byte, is_symbol, is_comment_byte}

abbrev pub begins_with : ℕ → List ℕ → Bool
begins_with b [] = false
begins_with b (c ∷ cs) = c == b

-- What stands at the front of a text that goes on with rest behind its first byte: a blank or a comment (a gap), a token, or a bad byte.
-- Words and numbers are as long as possible, and a number ends before a letter; a comment ends before the line feed.
abbrev pub piece_at : ℕ → List ℕ → Piece
piece_at b rest =
    if is_blank b then Gap 1
    else if b == 35 then Gap (length (take_while is_comment_byte rest) + 1)
    else if is_letter b then Part Word (length (take_while is_word_byte rest) + 1)
    else if is_digit b then Part Number (length (take_while is_digit rest) + 1)
    else if is_symbol b then Part Symbol 1
    else if b == 46 then (if begins_with 46 rest then Part Symbol 2 else Bad)
    else Bad

-- the piece at the front of a text that isn't empty
abbrev pub IsPiece : List ℕ → Piece → Type 0
IsPiece [] p = Unit {0}
IsPiece (b ∷ rest) p = p ≡ piece_at b rest

-- it has bytes, and no more than there are
abbrev pub HasBytes : Piece → ℕ → Type 0
HasBytes (Gap len) n = (0 < len) × (len ≤ n)
HasBytes (Part kind len) n = (0 < len) × (len ≤ n)
HasBytes Bad n = Unit {0}
