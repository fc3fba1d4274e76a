-- What reading answers, from the walk over a tree's nodes
use Rattle.std.proofs.Common.{◌≡◌, ◌∙◌, ℕ, List, Result, Ok, Err, sym}
use Rattle.qm_instr.specs.Programs.{Programs}
use Rattle.qm_lex.specs.declared.tokens.Token.{Token}
use Rattle.qm_lex.specs.Lexing.{tokens_of}
use Rattle.qm_parse.specs.Signs.{signs_of}
use Rattle.qm_parse.specs.Trees.{Program}
use Rattle.qm_parse.specs.Faults.{Spells}
use Rattle.qm_expand.specs.declared.ReadError.{ReadError}
use Rattle.qm_expand.specs.declared.ReadError.TheVariants as errors
use Rattle.qm_expand.specs.Reading.{Reads, lines_of}
use Rattle.qm_expand.specs.Expansion.{expanded}
use Rattle.qm_expand.specs.Walk.{Answers, tree_walked}

module _ (text : List ℕ) (tokens : List Token) (program : Program) (are : tokens_of text ≡ Ok tokens) (spelled : Spells (signs_of text tokens) program)
    (same : tree_walked text tokens program ≡ expanded (lines_of tokens) program) where
  pub reads : (r : Result Programs ReadError) → Answers (λ p. p) r (tree_walked text tokens program) → Reads text r
  reads (Ok p) h = (tokens, are, record { program = program; spelled = spelled; expands = sym same ∙ h })
  reads (Err errors.Memory) h = tt
  reads (Err (errors.UnknownName line)) h = (tokens, are, record { program = program; spelled = spelled; expands = sym same ∙ h })
  reads (Err (errors.OutOfRange line)) h = (tokens, are, record { program = program; spelled = spelled; expands = sym same ∙ h })
  reads (Err (errors.TooMany line)) h = (tokens, are, record { program = program; spelled = spelled; expands = sym same ∙ h })
  reads (Err (errors.BadByte line)) h = absurd h
  reads (Err (errors.Unexpected line)) h = absurd h
  reads (Err (errors.NumberTooLarge line)) h = absurd h
  reads (Err (errors.TooDeep line)) h = absurd h
  reads (Err (errors.Unended line)) h = absurd h
