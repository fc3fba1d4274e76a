-- Each text has one reading
use Rattle.std.specs.Prelude.{◌≡◌, ◌≢◌, ◌≤◌, ℕ, List, ◌∷◌, ◌++◌, length, map, replicate, All, codes, Result, Ok, Err}
use Rattle.qm_instr.specs.Programs.{Programs}
use Rattle.qm_lex.specs.declared.tokens.Token.{Token}
use Rattle.qm_lex.specs.declared.tokens.TokenKind.TheVariants as kind
use Rattle.qm_limits.specs.declared.TheConstants.{MOST_BYTES}
use Rattle.qm_parse.specs.declared.words.Keyword.TheVariants as keyword
use Rattle.qm_parse.specs.declared.words.Version.TheVariants as version
use Rattle.qm_parse.specs.Signs.{Sign, Number, Key, sign, sign_of}
use Rattle.qm_expand.specs.declared.ReadError.{ReadError}
use Rattle.qm_expand.specs.declared.ReadError.TheVariants as errors
use Rattle.qm_expand.specs.Reading.{OnTokens, Reads}

-- the programs of all ranks, or one fault on one line, and never both; want of memory is no reading
abbrev pub OneReading : Type 0
OneReading =
    (text : List ℕ) (r s : Result Programs ReadError) → r ≢ Err errors.Memory → s ≢ Err errors.Memory → Reads text r → Reads text s → r ≡ s

-- a reading of a text
pub record Reading (text : List ℕ) : Type 0 where
  pub answer : Result Programs ReadError
  pub known : answer ≢ Err errors.Memory
  pub reads : Reads text answer

-- each text that isn't too long has one
abbrev pub SomeReading : Type 0
SomeReading = (text : List ℕ) → length text ≤ MOST_BYTES → Reading text

-- ---- equal sizes
-- the tokens of a text with the words of version 1, whatever version the text has
abbrev pub written : List ℕ → List Token → List Sign
written text tokens = map (sign_of version.One text) tokens

-- a text of version 1: one number for the slots of all ranks, and one for their buffers
abbrev pub older_text : (ranks qubits buffer : ℕ) → (rest : List Sign) → List Sign
older_text ranks qubits buffer rest =
    Key keyword.Qmpi ∷ Number 1 ∷ Key keyword.Ranks ∷ Number ranks ∷ Key keyword.Qubits ∷ Number qubits
    ∷ Key keyword.Buffer ∷ Number buffer ∷ rest

-- a text of version 2 that gives every rank these slots and this buffer
abbrev pub same_text : (ranks qubits buffer : ℕ) → (rest : List Sign) → List Sign
same_text ranks qubits buffer rest =
    Key keyword.Qmpi ∷ Number 2 ∷ Key keyword.Ranks ∷ Number ranks ∷ Key keyword.Qubits
    ∷ (replicate ranks (Number qubits) ++ Key keyword.Buffer ∷ (replicate ranks (Number buffer) ++ rest))

-- a word, by what it is in version 1
abbrev pub older_word : List ℕ → Sign
older_word bytes = sign version.One kind.Word bytes

-- none of the words that are something else in version 2
abbrev pub IsOlderWord : Sign → Type 0
IsOlderWord t = (t ≢ older_word (codes "unreduce")) × (t ≢ older_word (codes "treecast")) × (t ≢ older_word (codes "untreecast"))

-- the second text is one of version 2 that gives all ranks as many slots and buffers of one size, has none of the words `unreduce`,
-- `treecast` and `untreecast`, and is otherwise the first text, of version 1
pub record HasSameSizes (one two : List ℕ) : Type 0 where
  pub ranks : ℕ
  pub qubits : ℕ
  pub buffer : ℕ
  pub rest : List Sign
  pub older : OnTokens one (λ tokens. written one tokens ≡ older_text ranks qubits buffer rest)
  pub newer : OnTokens two (λ tokens. written two tokens ≡ same_text ranks qubits buffer rest)
  pub none : All IsOlderWord rest

-- such a text is read as the first one's programs with the version 2
abbrev pub SameSizes : Type 0
SameSizes = (one two : List ℕ) (p : Programs) → HasSameSizes one two → Reads one (Ok p) → Reads two (Ok (record p { version = 2 }))
