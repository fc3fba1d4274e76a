-- What reading a text may answer: the programs of all ranks, or the first fault of all
use Rattle.std.specs.Prelude.{◌≡◌, ℕ, List, slice_index, map, Result, Ok, Err}
use Rattle.qm_instr.specs.Programs.{Programs}
use Rattle.qm_lex.specs.declared.tokens.Token.{Token}
use Rattle.qm_lex.specs.Lexing.{tokens_of, end_line}
use Rattle.qm_parse.specs.Signs.{signs_of}
use Rattle.qm_parse.specs.Trees.{Program}
use Rattle.qm_parse.specs.Faults.{Spells, IsUnended, IsUnexpected, IsTooLarge, IsTooDeep}
use Rattle.qm_parse.specs.Parsing.{StopsOn}
use Rattle.qm_expand.specs.declared.ReadError.{ReadError}
use Rattle.qm_expand.specs.declared.ReadError.TheVariants as errors
use Rattle.qm_expand.specs.Steps.{Outcome, UnknownName, OutOfRange, TooMany}
use Rattle.qm_expand.specs.Expansion.{Lines, expanded}

-- the line of each token
abbrev pub lines_of : List Token → Lines
lines_of tokens = slice_index (map (λ t. t.line) tokens)

-- the text has tokens, for which this holds
abbrev pub OnTokens : List ℕ → (List Token → Type 0) → Type 0
OnTokens text P = (tokens : List Token) × (tokens_of text ≡ Ok tokens) × P tokens

-- the tokens spell a source tree, and this is its expansion
pub record MadeOf (text : List ℕ) (outcome : Outcome Programs) (tokens : List Token) : Type 0 where
  pub program : Program
  pub spelled : Spells (signs_of text tokens) program
  pub expands : expanded (lines_of tokens) program ≡ outcome

-- what reading answers: the first fault of the bytes, then that of the grammar, then that of the expansion
abbrev pub Reads : List ℕ → Result Programs ReadError → Type 0
Reads text (Ok programs) = OnTokens text (MadeOf text (Ok programs))
Reads text (Err (errors.BadByte line)) = tokens_of text ≡ Err line
Reads text (Err (errors.Unexpected line)) = OnTokens text (λ tokens. StopsOn IsUnexpected text tokens line)
Reads text (Err (errors.NumberTooLarge line)) = OnTokens text (λ tokens. StopsOn IsTooLarge text tokens line)
Reads text (Err (errors.TooDeep line)) = OnTokens text (λ tokens. StopsOn IsTooDeep text tokens line)
Reads text (Err (errors.Unended line)) = OnTokens text (λ tokens. IsUnended (signs_of text tokens) × (line ≡ end_line text))
Reads text (Err (errors.UnknownName line)) = OnTokens text (MadeOf text (Err (UnknownName line)))
Reads text (Err (errors.OutOfRange line)) = OnTokens text (MadeOf text (Err (OutOfRange line)))
Reads text (Err (errors.TooMany line)) = OnTokens text (MadeOf text (Err (TooMany line)))
Reads text (Err errors.Memory) = Unit {0}
