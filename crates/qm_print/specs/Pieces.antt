-- The pieces of which lines are made
use Rattle.std.specs.Prelude.{ℕ, List, [], ◌∷◌, ◌++◌, decimal}
use Rattle.std.specs.Fmt.{signed_decimal}
use Rattle.qm_print.specs.declared.page.Piece.{Piece}
use Rattle.qm_print.specs.declared.page.Piece.TheVariants as piece
use Rattle.qm_print.specs.Slots.{wire_text}

-- what is written for a piece
abbrev pub piece_text : Piece → List ℕ
piece_text (piece.Text text) = text.now
piece_text (piece.Number n) = decimal n
piece_text (piece.Signed z) = signed_decimal z
piece_text (piece.Wire w) = wire_text w

-- a text, and behind it those of pieces
abbrev pub followed_by_all : List ℕ → List Piece → List ℕ
followed_by_all text [] = text
followed_by_all text (p ∷ ps) = followed_by_all (text ++ piece_text p) ps

-- the texts of pieces, one behind the other
abbrev pub pieces_text : List Piece → List ℕ
pieces_text [] = []
pieces_text (p ∷ ps) = followed_by_all (piece_text p) ps
