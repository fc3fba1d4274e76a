-- Every text that is short enough has a reading: programs, or the first fault of its bytes, of the grammar or of the expansion
use Rattle.std.proofs.Common.{◌≡◌, ℕ, ◌≤◌, ◌⊎◌, inl, inr, List, length, Result, Ok, Err, refl}
use Rattle.qm_instr.specs.Programs.{Programs}
use Rattle.qm_lex.specs.declared.tokens.Token.{Token}
use Rattle.qm_lex.specs.Lexing.{tokens_of}
use Rattle.qm_parse.specs.declared.errors.ParseError.{ParseError}
use Rattle.qm_parse.specs.declared.errors.ParseError.TheVariants as parse
use Rattle.qm_parse.specs.Signs.{signs_of}
use Rattle.qm_parse.specs.Laws.{Refused}
use Rattle.qm_parse.specs.Trees.{Program}
use Rattle.qm_parse.specs.Faults.{Spells}
use Rattle.qm_parse.proofs.SomeAnswer.{some-answer}
use Rattle.qm_expand.specs.declared.ReadError.TheVariants as errors
use Rattle.qm_expand.specs.Steps.{Outcome, UnknownName, OutOfRange, TooMany}
use Rattle.qm_expand.specs.Expansion.{expanded}
use Rattle.qm_expand.specs.Reading.{MadeOf, lines_of}
use Rattle.qm_expand.specs.Laws.{Reading}

module _ (text : List ℕ) (tokens : List Token) (are : tokens_of text ≡ Ok tokens) where
  of_fault : (e : ParseError) → Refused text tokens e → Reading text
  of_fault (parse.Unexpected n) h = record { answer = Err (errors.Unexpected n); known = λ e. cc; reads = (tokens, are, h) }
  of_fault (parse.NumberTooLarge n) h = record { answer = Err (errors.NumberTooLarge n); known = λ e. cc; reads = (tokens, are, h) }
  of_fault (parse.TooDeep n) h = record { answer = Err (errors.TooDeep n); known = λ e. cc; reads = (tokens, are, h) }
  of_fault (parse.Unended n) h = record { answer = Err (errors.Unended n); known = λ e. cc; reads = (tokens, are, h) }
  of_fault parse.Memory h = absurd h

  of_outcome : (o : Outcome Programs) → MadeOf text o tokens → Reading text
  of_outcome (Ok p) m = record { answer = Ok p; known = λ e. cc; reads = (tokens, are, m) }
  of_outcome (Err (UnknownName n)) m = record { answer = Err (errors.UnknownName n); known = λ e. cc; reads = (tokens, are, m) }
  of_outcome (Err (OutOfRange n)) m = record { answer = Err (errors.OutOfRange n); known = λ e. cc; reads = (tokens, are, m) }
  of_outcome (Err (TooMany n)) m = record { answer = Err (errors.TooMany n); known = λ e. cc; reads = (tokens, are, m) }

  of_answer : ((m : Program) × Spells (signs_of text tokens) m) ⊎ ((e : ParseError) × Refused text tokens e) → Reading text
  of_answer (inl (m, spelled)) = of_outcome (expanded (lines_of tokens) m) (record { program = m; spelled = spelled; expands = refl })
  of_answer (inr (e, h)) = of_fault e h

pub some-reading : (text : List ℕ) → length text ≤ 1048576 → Reading text
some-reading text small = by_bytes (tokens_of text) refl
  where
    by_bytes : (r : Result (List Token) ℕ) → tokens_of text ≡ r → Reading text
    by_bytes (Ok tokens) e = of_answer text tokens e (some-answer text tokens e small)
    by_bytes (Err n) e = record { answer = Err (errors.BadByte n); known = λ e. cc; reads = e }
