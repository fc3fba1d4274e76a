-- Tokens as the reading sees them: no more of each than decides how the reading goes on
use Rattle.std.specs.Prelude.{ℕ, ◌+◌, ◌==◌, ◌||◌, ◌&&◌, Bool, false, nat_le, if◌then◌else◌, List, [], ◌∷◌, map, Option, Some, None}
use Rattle.std.specs.List.{list_all}
use Rattle.qm_lex.specs.declared.tokens.Token.{Token}
use Rattle.qm_limits.specs.declared.TheConstants.{LARGEST_VALUE}
use Rattle.qm_parse.specs.declared.looks.Look.{Look}
use Rattle.qm_parse.specs.declared.looks.Look.TheVariants as look
use Rattle.qm_parse.specs.declared.words.Verb.{Verb}
use Rattle.qm_parse.specs.declared.words.Version.{Version}
use Rattle.qm_parse.specs.declared.words.Version.TheVariants as version
use Rattle.qm_parse.specs.Signs.{Sign, Number, Key, Act, Ident, Symbol, signs_of}

-- a number, or the first one that is too large
abbrev pub capped : ℕ → ℕ
capped n = if nat_le n LARGEST_VALUE then n else LARGEST_VALUE + 1

-- whether a byte is the digit 0 or 1
abbrev pub is_outcome : ℕ → Bool
is_outcome b = b == 48 || b == 49

-- the letter b followed by digits 0 and 1 only
abbrev pub is_bits : List ℕ → Bool
is_bits [] = false
is_bits (b ∷ bs) = b == 98 && list_all is_outcome bs

-- what the reading sees of a token
abbrev pub look_of : Sign → Look
look_of (Number v) = look.Number (capped v)
look_of (Key k) = look.Keyword k
look_of (Act v) = look.Verb v
look_of (Ident bytes) = look.Name (is_bits bytes)
look_of (Symbol m) = look.Mark m

-- the next token, or the end
abbrev pub look_at : List Sign → Look
look_at [] = look.End
look_at (t ∷ ts) = look_of t

-- the tokens of a text as the reading sees them
abbrev pub looks_of : List ℕ → List Token → List Look
looks_of text tokens = map look_of (signs_of text tokens)

-- the next of these looks, or the end
abbrev pub look_next : List Look → Look
look_next [] = look.End
look_next (l ∷ ls) = l

-- the version that a look names where a version stands
abbrev pub version_seen : Look → Version
version_seen (look.Number v) = if v == 2 then version.Two else version.One
version_seen l = version.One

-- the instruction or collective that a look is
abbrev pub verb_seen : Look → Option Verb
verb_seen (look.Verb v) = Some v
verb_seen l = None
