-- Where the tokens of a text stand in it
use Rattle.std.specs.Prelude.{ℕ, ◌<◌, ◌≤◌, List, [], ◌∷◌, length}
use Rattle.qm_lex.specs.declared.tokens.Token.{Token}

-- spans that aren't empty, one behind the other, from a place on and up to an end
abbrev pub SpansRise : ℕ → ℕ → List Token → Type 0
SpansRise from end [] = from ≤ end
SpansRise from end (t ∷ ts) = (from ≤ t.start) × (t.start < t.stop) × SpansRise t.stop end ts

-- each token is a slice of the text, and no two overlap
abbrev pub LieIn : List ℕ → List Token → Type 0
LieIn text ts = SpansRise 0 (length text) ts
