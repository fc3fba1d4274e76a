-- Tokens as the grammar sees them
use Rattle.std.specs.Prelude.{ℕ, ◌==◌, if◌then◌else◌, List, map, slice_get, slice_range, slice_index, Option, Some, None, option_map}
use Rattle.qm_lex.specs.declared.tokens.Token.{Token}
use Rattle.qm_lex.specs.declared.tokens.TokenKind.{TokenKind}
use Rattle.qm_lex.specs.declared.tokens.TokenKind.TheVariants as kind
use Rattle.qm_parse.specs.declared.words.Keyword.{Keyword}
use Rattle.qm_parse.specs.declared.words.Mark.{Mark}
use Rattle.qm_parse.specs.declared.words.Mark.TheVariants as mark
use Rattle.qm_parse.specs.declared.words.Reserved.{Reserved}
use Rattle.qm_parse.specs.declared.words.Reserved.TheVariants as reserved
use Rattle.qm_parse.specs.declared.words.Verb.{Verb}
use Rattle.qm_parse.specs.declared.words.Version.{Version}
use Rattle.qm_parse.specs.declared.words.Version.TheVariants as version
use Rattle.qm_parse.specs.Words.{reserved_of, value_of}

-- a number by its value, a reserved word by its meaning, any other word by its bytes, a symbol
pub data Sign : Type 0 where
  Number : (value : ℕ) → Sign
  Key : (keyword : Keyword) → Sign
  Act : (verb : Verb) → Sign
  Ident : (bytes : List ℕ) → Sign
  Symbol : (mark : Mark) → Sign

-- a symbol, by its first byte
abbrev pub mark_of : ℕ → Mark
mark_of b =
    if b == 123 then mark.OpenBrace
    else if b == 125 then mark.CloseBrace
    else if b == 40 then mark.OpenParenthesis
    else if b == 41 then mark.CloseParenthesis
    else if b == 43 then mark.Plus
    else if b == 45 then mark.Minus
    else if b == 42 then mark.Times
    else if b == 47 then mark.Over
    else if b == 37 then mark.Rest
    else mark.Dots

-- a word with these bytes, and what it means
abbrev pub word_sign : List ℕ → Option Reserved → Sign
word_sign bytes (Some (reserved.Keyword k)) = Key k
word_sign bytes (Some (reserved.Verb v)) = Act v
word_sign bytes None = Ident bytes

-- a token of a kind with these bytes, in a text of a version
abbrev pub sign : Version → TokenKind → List ℕ → Sign
sign v kind.Word bytes = word_sign bytes (reserved_of v bytes)
sign v kind.Number bytes = Number (value_of bytes)
sign v kind.Symbol bytes = Symbol (mark_of (slice_index bytes 0))

-- the bytes of a token
abbrev pub bytes_of : List ℕ → Token → List ℕ
bytes_of text t = slice_range text t.start t.stop

-- a token of a text of a version, as the grammar sees it
abbrev pub sign_of : Version → List ℕ → Token → Sign
sign_of v text t = sign v t.kind (bytes_of text t)

-- the version that a token names where a version stands: 2 by its number, and 1 by any other, for with another no program begins
abbrev pub version_by : Option Sign → Version
version_by (Some (Number v)) = if v == 2 then version.Two else version.One
version_by s = version.One

-- the version of a text, which its second token names
abbrev pub version_of : List ℕ → List Token → Version
version_of text tokens = version_by (option_map (sign_of version.One text) (slice_get tokens 1))

-- the tokens of a text, in their order
abbrev pub signs_of : List ℕ → List Token → List Sign
signs_of text tokens = map (sign_of (version_of text tokens) text) tokens

-- the instruction or collective that a token names
abbrev pub verb_of : Sign → Option Verb
verb_of (Act v) = Some v
verb_of s = None

-- those of the tokens of a text, in their order
abbrev pub verbs_of : List ℕ → List Token → List (Option Verb)
verbs_of text tokens = map verb_of (signs_of text tokens)
