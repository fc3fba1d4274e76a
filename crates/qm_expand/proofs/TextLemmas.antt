-- The lines of tokens, by number
use Rattle.std.proofs.Common.{◌≡◌, ℕ, zero, suc, List, [], ◌∷◌, Some, None, sym, ap, refl}
use Rattle.std.specs.Prelude.{slice_get}
use Rattle.std.proofs.lemmas.Option.{same_Some, none-some}
use Rattle.qm_lex.specs.declared.tokens.Token.{Token}
use Rattle.qm_expand.specs.Reading.{lines_of}

-- the line of a token
pub line_at : (ts : List Token) (j : ℕ) (t : Token) → slice_get ts j ≡ Some t → lines_of ts j ≡ t.line
line_at [] j t e = absurd (none-some t e)
line_at (u ∷ ts) zero t e = ap (λ (v : Token). v.line) (same_Some u t e)
line_at (u ∷ ts) (suc j) t e = line_at ts j t e

pub line_past : (ts : List Token) (j : ℕ) → slice_get ts j ≡ None → lines_of ts j ≡ 0
line_past [] j e = refl
line_past (u ∷ ts) zero e = absurd (none-some u (sym e))
line_past (u ∷ ts) (suc j) e = line_past ts j e
