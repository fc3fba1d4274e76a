-- Tokens have one source tree, or one first fault, and never both
use Rattle.std.specs.Prelude.{◌≡◌, ℕ, ◌≤◌, ◌⊎◌, ◌==◌, not, List, length, map, take_while, find, Option, option_map, Ok}
use Rattle.std.specs.Str.{bytes_eq}
use Rattle.qm_lex.specs.declared.tokens.Token.{Token}
use Rattle.qm_limits.specs.declared.TheConstants.{MOST_BYTES}
use Rattle.qm_lex.specs.Lexing.{end_line, tokens_of}
use Rattle.qm_parse.specs.declared.errors.ParseError.{ParseError}
use Rattle.qm_parse.specs.declared.errors.ParseError.TheVariants.{Unexpected, NumberTooLarge, TooDeep, Unended, Memory}
use Rattle.qm_parse.specs.declared.table.Entry.{Entry}
use Rattle.qm_parse.specs.declared.table.TheConstants.{WORDS, NEWER}
use Rattle.qm_parse.specs.declared.words.Reserved.{Reserved}
use Rattle.qm_parse.specs.declared.words.Version.TheVariants as version
use Rattle.qm_parse.specs.Words.{Word, words, newer_words}
use Rattle.qm_parse.specs.Signs.{Sign, signs_of}
use Rattle.qm_parse.specs.Trees.{Program}
use Rattle.qm_parse.specs.Faults.{Spells, IsUnexpected, IsTooLarge, IsTooDeep, IsUnended}
use Rattle.qm_parse.specs.Parsing.{StopsOn}

-- this is a first fault of tokens; want of memory is none
abbrev pub Refused : List ℕ → List Token → ParseError → Type 0
Refused text tokens (Unexpected line) = StopsOn IsUnexpected text tokens line
Refused text tokens (NumberTooLarge line) = StopsOn IsTooLarge text tokens line
Refused text tokens (TooDeep line) = StopsOn IsTooDeep text tokens line
Refused text tokens (Unended line) = IsUnended (signs_of text tokens) × (line ≡ end_line text)
Refused text tokens Memory = ⊥

-- signs spell one program at most
abbrev pub OneTree : Type 0
OneTree = (signs : List Sign) (p q : Program) → Spells signs p → Spells signs q → p ≡ q

-- tokens have one first fault at most
abbrev pub OneFault : Type 0
OneFault = (text : List ℕ) (tokens : List Token) (e f : ParseError) → Refused text tokens e → Refused text tokens f → e ≡ f

-- tokens that spell a program have no fault
abbrev pub TreeOrFault : Type 0
TreeOrFault =
    (text : List ℕ) (tokens : List Token) (p : Program) (e : ParseError) → Spells (signs_of text tokens) p → ¬ Refused text tokens e

-- the tokens of a text spell a program, or have a first fault
abbrev pub SomeTreeOrFault : Type 0
SomeTreeOrFault = (text : List ℕ) (tokens : List Token) → tokens_of text ≡ Ok tokens → length text ≤ MOST_BYTES
    → ((p : Program) × Spells (signs_of text tokens) p) ⊎ ((e : ParseError) × Refused text tokens e)

-- ---- the words
-- the bytes of a word that is filled up with spaces
abbrev pub without_spaces : List ℕ → List ℕ
without_spaces bytes = take_while (λ b. not (b == 32)) bytes

-- an entry of the code's table
abbrev pub word_in : Entry → Word
word_in entry = record { bytes = without_spaces entry.word; means = entry.means }

-- what a word means by such entries
abbrev pub entry_meaning : List Entry → List ℕ → Option Reserved
entry_meaning entries bytes = option_map (λ entry. entry.means) (find (λ entry. bytes_eq bytes (without_spaces entry.word)) entries)

-- the code's tables have the reserved words of version 1, and those that mean something else in version 2
pub record SameWords : Type 0 where
  pub older : map word_in WORDS ≡ words version.One
  pub newer : map word_in NEWER ≡ newer_words
