-- Each text has one reading
use Rattle.std.proofs.Common.{◌≡◌, ◌≢◌, ◌∙◌, ℕ, List, Result, Ok, Err, refl, sym, ap, subst}
use Rattle.qm_instr.specs.Programs.{Programs}
use Rattle.qm_lex.specs.declared.tokens.Token.{Token}
use Rattle.qm_lex.specs.Lexing.{tokens_of}
use Rattle.qm_parse.specs.declared.errors.ParseError.{ParseError}
use Rattle.qm_parse.specs.declared.errors.ParseError.TheVariants as parse
use Rattle.qm_parse.specs.Signs.{signs_of}
use Rattle.qm_parse.specs.Trees.{Program}
use Rattle.qm_parse.specs.Laws.{Refused}
use Rattle.qm_parse.proofs.Unique.{program-same}
use Rattle.qm_parse.proofs.OneAnswer.{one-fault, tree-or-fault}
use Rattle.qm_expand.specs.declared.ReadError.{ReadError}
use Rattle.qm_expand.specs.declared.ReadError.TheVariants as errors
use Rattle.qm_expand.specs.Steps.{Outcome, UnknownName, OutOfRange, TooMany}
use Rattle.qm_expand.specs.Expansion.{expanded}
use Rattle.qm_expand.specs.Reading.{OnTokens, MadeOf, Reads, lines_of}

abbrev of_parse : ParseError → ReadError
of_parse (parse.Unexpected line) = errors.Unexpected line
of_parse (parse.NumberTooLarge line) = errors.NumberTooLarge line
of_parse (parse.TooDeep line) = errors.TooDeep line
of_parse (parse.Unended line) = errors.Unended line
of_parse parse.Memory = errors.Memory

abbrev of_outcome : Outcome Programs → Result Programs ReadError
of_outcome (Ok p) = Ok p
of_outcome (Err (UnknownName line)) = Err (errors.UnknownName line)
of_outcome (Err (OutOfRange line)) = Err (errors.OutOfRange line)
of_outcome (Err (TooMany line)) = Err (errors.TooMany line)

-- a bad byte, a fault of the grammar, or what the expansion of a tree makes
data Seen (text : List ℕ) (r : Result Programs ReadError) : Type 0 where
  Bad : (line : ℕ) → r ≡ Err (errors.BadByte line) → tokens_of text ≡ Err line → Seen text r
  Fault : (e : ParseError) → r ≡ Err (of_parse e) → OnTokens text (λ tokens. Refused text tokens e) → Seen text r
  Made : (o : Outcome Programs) → r ≡ of_outcome o → OnTokens text (MadeOf text o) → Seen text r

seen : (text : List ℕ) (r : Result Programs ReadError) → r ≢ Err errors.Memory → Reads text r → Seen text r
seen text (Ok p) n h = Made (Ok p) refl h
seen text (Err (errors.BadByte line)) n h = Bad line refl h
seen text (Err (errors.Unexpected line)) n h = Fault (parse.Unexpected line) refl h
seen text (Err (errors.NumberTooLarge line)) n h = Fault (parse.NumberTooLarge line) refl h
seen text (Err (errors.TooDeep line)) n h = Fault (parse.TooDeep line) refl h
seen text (Err (errors.Unended line)) n h = Fault (parse.Unended line) refl h
seen text (Err (errors.UnknownName line)) n h = Made (Err (UnknownName line)) refl h
seen text (Err (errors.OutOfRange line)) n h = Made (Err (OutOfRange line)) refl h
seen text (Err (errors.TooMany line)) n h = Made (Err (TooMany line)) refl h
seen text (Err errors.Memory) n h = absurd (n refl)

-- ---- tokens
abbrev Lexed : Type 0
Lexed = Result (List Token) ℕ

bad-or-tokens : {A : Type 0} (r : Lexed) (line : ℕ) (tokens : List Token) → r ≡ Err line → r ≡ Ok tokens → A
bad-or-tokens r line tokens a b = absurd (let h : ◌≡◌ {A = Lexed} (Err line) (Ok tokens) = sym a ∙ b in cc)

same-bad : (k l : ℕ) → ◌≡◌ {A = Lexed} (Err k) (Err l) → k ≡ l
same-bad k l e = cc

same-tokens : (us vs : List Token) → ◌≡◌ {A = Lexed} (Ok us) (Ok vs) → us ≡ vs
same-tokens us vs e = cc

made-same : (text : List ℕ) (tokens : List Token) (o u : Outcome Programs) → MadeOf text o tokens → MadeOf text u tokens → o ≡ u
made-same text tokens o u a b =
    sym a.expands ∙ ap (λ (p : Program). expanded (lines_of tokens) p) (program-same (signs_of text tokens) a.program b.program a.spelled b.spelled) ∙ b.expands

both : (text : List ℕ) (r s : Result Programs ReadError) → Seen text r → Seen text s → r ≡ s
both text r s (Bad k e a) (Bad l f b) = e ∙ ap (λ n. Err (errors.BadByte n)) (same-bad k l (sym a ∙ b)) ∙ sym f
both text r s (Bad k e a) (Fault x f b) = bad-or-tokens (tokens_of text) k b.0 a b.1
both text r s (Bad k e a) (Made o f b) = bad-or-tokens (tokens_of text) k b.0 a b.1
both text r s (Fault x e a) (Bad l f b) = bad-or-tokens (tokens_of text) l a.0 b a.1
both text r s (Made o e a) (Bad l f b) = bad-or-tokens (tokens_of text) l a.0 b a.1
both text r s (Fault x e a) (Fault y f b) =
    let t = same-tokens a.0 b.0 (sym a.1 ∙ b.1) in
    e ∙ ap (λ z. Err (of_parse z)) (one-fault text b.0 x y (subst (λ (ts : List Token). Refused text ts x) t a.2) b.2) ∙ sym f
both text r s (Fault x e a) (Made o f b) =
    let t = same-tokens a.0 b.0 (sym a.1 ∙ b.1) in
    let m = b.2 in absurd (tree-or-fault text b.0 m.program x m.spelled (subst (λ (ts : List Token). Refused text ts x) t a.2))
both text r s (Made o e a) (Fault y f b) =
    let t = same-tokens b.0 a.0 (sym b.1 ∙ a.1) in
    let m = a.2 in absurd (tree-or-fault text a.0 m.program y m.spelled (subst (λ (ts : List Token). Refused text ts y) t b.2))
both text r s (Made o e a) (Made u f b) =
    let t = same-tokens a.0 b.0 (sym a.1 ∙ b.1) in
    e ∙ ap of_outcome (made-same text b.0 o u (subst (λ (ts : List Token). MadeOf text o ts) t a.2) b.2) ∙ sym f

pub one-reading : (text : List ℕ) (r s : Result Programs ReadError) → r ≢ Err errors.Memory → s ≢ Err errors.Memory → Reads text r → Reads text s → r ≡ s
one-reading text r s n m a b = both text r s (seen text r n a) (seen text s m b)
