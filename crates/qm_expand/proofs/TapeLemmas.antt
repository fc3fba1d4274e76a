-- Tapes: the expansion of the blocks leaves them as they are, and the tape lines of a text are short enough
use Rattle.std.proofs.Common.{◌≡◌, ◌∙◌, ℕ, zero, suc, ◌+◌, ◌-◌, ◌<◌, ◌≤◌, Bool, true, false, nat_lt, List, [], ◌∷◌, ◌++◌, length, map, drop, get_or, set, Option, Some, None, Ok, Err, refl, sym, ap, arith, length-append, length-take, length-set, if◌then◌else◌}
use Rattle.std.specs.Prelude.{sum_by}
use Rattle.std.proofs.lemmas.List.Sums.{sum_by-append, sum_by-cons, sum_by-set}
use Rattle.std.proofs.lemmas.List.{length-map}
use Rattle.qm_instr.specs.declared.Instr.{Instr}
use Rattle.qm_instr.specs.Programs.{Programs, RankProgram, idle_rank, rank_of, with_instruction, instruction_total}
use Rattle.qm_lex.specs.declared.tokens.Token.{Token}
use Rattle.qm_lex.specs.declared.tokens.TokenKind.{TokenKind}
use Rattle.qm_lex.specs.declared.tokens.TokenKind.TheVariants as kind
use Rattle.qm_lex.specs.Spans.{SpansRise, LieIn}
use Rattle.qm_parse.specs.declared.words.Reserved.{Reserved}
use Rattle.qm_parse.specs.declared.words.Reserved.TheVariants as reserved
use Rattle.qm_parse.specs.declared.words.Keyword.TheVariants as keyword
use Rattle.qm_parse.specs.declared.words.Version.{Version}
use Rattle.qm_parse.specs.Words.{reserved_of, version_number}
use Rattle.qm_parse.specs.Signs.{Sign, Number, Key, Ident, word_sign, sign, bytes_of, sign_of, signs_of, version_of}
use Rattle.qm_parse.specs.Trees.{Blocks, TapeLine, Program, ProgramMay}
use Rattle.qm_parse.specs.Spelling.{blocks_signs, tape_signs, tapes_signs, numbers_signs, program_signs}
use Rattle.qm_expand.specs.Steps.{Outcome, ◌>>=◌}
use Rattle.qm_expand.specs.Drafts.{Draft, has_operands, with_outcomes}
use Rattle.qm_expand.specs.Expansion.{Lines, blocks_expanded, by_rank, sized}
use Rattle.qm_expand.proofs.Holding.{Holds, holds-blocks}
use Rattle.qm_expand.proofs.SizeLemmas.{length-sized_programs, sum_by-sized}

-- ---- all outcomes of all tapes
abbrev tape_size : RankProgram → ℕ
tape_size r = length r.own + length r.protocol

abbrev pub tape_total : Programs → ℕ
tape_total p = sum_by tape_size p.ranks

-- the same tapes in size, for as many ranks
abbrev pub Kept : Programs → Programs → Type 0
Kept p q = (length q.ranks ≡ length p.ranks) × (tape_total q ≡ tape_total p)

abbrev pub Keeps : Draft → Outcome Draft → Type 0
Keeps d o = Holds (Kept d.programs) o

pub known-same : {A : Type 0} (d : Draft) (o : Outcome Draft) (f g : Draft → Outcome A) → Keeps d o → ((e : Draft) → Kept d.programs e.programs → f e ≡ g e) → (o >>= f) ≡ (o >>= g)
known-same d (Ok e) f g k h = h e k
known-same d (Err e) f g k h = refl

-- ---- the expansion keeps them
sum_by-same : {X : Type 0} (f : X → ℕ) (xs : List X) (i : ℕ) (x d : X) → f x ≡ f (get_or xs i d) → sum_by f (set xs i x) ≡ sum_by f xs
sum_by-same f [] i x d e = refl
sum_by-same f (y ∷ ys) zero x d e = sum_by-cons f x ys ∙ ap (λ n. n + sum_by f ys) e ∙ sym (sum_by-cons f y ys)
sum_by-same f (y ∷ ys) (suc i) x d e = sum_by-cons f y (set ys i x) ∙ ap (λ n. f y + n) (sum_by-same f ys i x d e) ∙ sym (sum_by-cons f y ys)

pub keeps-blocks : (lines : Lines) (at ranks : ℕ) (b : Blocks) (d : Draft) → Keeps d (blocks_expanded lines at ranks b d)
keeps-blocks lines at ranks b d = holds-blocks (Kept d.programs) push_kept lines at ranks b d (refl, refl)
  where
    push_kept : (p : Programs) (rank : ℕ) (i : Instr) → Kept d.programs p → has_operands (rank_of p rank).qubits i ≡ true → nat_lt (instruction_total p) 100000 ≡ true
        → Kept d.programs (with_instruction p rank i)
    push_kept p rank i k operands room =
        let r = rank_of p rank in
        let x : RankProgram = record r { instructions = r.instructions ++ i ∷ [] } in
        (length-set p.ranks rank x ∙ k.0, sum_by-same tape_size p.ranks rank x idle_rank refl ∙ k.1)

pub sized-empty : (p : Program) → ProgramMay p → (length (sized p).ranks ≡ p.ranks) × (tape_total (sized p) ≡ 0)
sized-empty p m = (
  length-sized_programs p.version p.ranks p.qubits p.buffers m.qubits.count m.buffers.count,
  sum_by-sized tape_size (λ q b. refl) (by_rank p.version p.ranks p.qubits) (by_rank p.version p.ranks p.buffers),
)

-- ---- outcomes of tape lines
abbrev pub outcome_total : List TapeLine → ℕ
outcome_total ts = sum_by (λ t. length t.outcomes) ts

pub total-outcomes : (own : Bool) (rank : ℕ) (ms : List Bool) (p : Programs) → rank < length p.ranks → tape_total (with_outcomes own rank ms p) ≡ tape_total p + length ms
total-outcomes true rank ms p low =
    let r = rank_of p rank in
    let x : RankProgram = record r { own = r.own ++ ms } in
    omega (arith, sum_by-set tape_size p.ranks rank x idle_rank low, length-append r.own ms)
total-outcomes false rank ms p low =
    let r = rank_of p rank in
    let x : RankProgram = record r { protocol = r.protocol ++ ms } in
    omega (arith, sum_by-set tape_size p.ranks rank x idle_rank low, length-append r.protocol ms)

-- ---- the tape lines of a text have fewer outcomes than the text has bytes
abbrev name_size : Sign → ℕ
name_size (Ident bytes) = length bytes
name_size t = 0

word-size : (word : List ℕ) (r : Option Reserved) → name_size (word_sign word r) ≤ length word
word-size word (Some (reserved.Keyword k)) = omega arith
word-size word (Some (reserved.Verb v)) = omega arith
word-size word None = omega arith

token-size : (v : Version) (k : TokenKind) (bytes : List ℕ) → name_size (sign v k bytes) ≤ length bytes
token-size v kind.Word bytes = word-size bytes (reserved_of v bytes)
token-size v kind.Number bytes = omega arith
token-size v kind.Symbol bytes = omega arith

signs-size : (v : Version) (text : List ℕ) (from end : ℕ) (ts : List Token) → SpansRise from end ts → from + sum_by name_size (map (sign_of v text) ts) ≤ end
signs-size v text from end [] r = omega (arith, r)
signs-size v text from end (t ∷ ts) r =
    let more = signs-size v text t.stop end ts r.2 in
    let one = token-size v t.kind (bytes_of text t) in
    let few : length (bytes_of text t) ≤ t.stop - t.start = omega (arith, length-take (t.stop - t.start) (drop t.start text)) in
    omega (arith, more, one, few, r.0, r.1, sum_by-cons name_size (sign_of v text t) (map (sign_of v text) ts))

tapes-size : (ts : List TapeLine) → outcome_total ts ≤ sum_by name_size (tapes_signs ts)
tapes-size [] = omega arith
tapes-size (t ∷ ts) =
    let more = tapes-size ts in
    omega
    (arith, more, sum_by-append name_size (tape_signs t) (tapes_signs ts), sum_by-cons (λ (l : TapeLine). length l.outcomes) t ts, length-map {B = ℕ} t.outcomes (λ (m : Bool). if m then 49 else 48))

pub outcomes-fit : (text : List ℕ) (tokens : List Token) (p : Program) → LieIn text tokens → program_signs p ≡ signs_of text tokens → outcome_total p.tapes ≤ length text
outcomes-fit text tokens p lie e =
    let all = signs-size (version_of text tokens) text 0 (length text) tokens lie in
    let same : sum_by name_size (program_signs p) ≡ sum_by name_size (signs_of text tokens) = ap (sum_by name_size) e in
    let head = Key keyword.Qmpi ∷ Number (version_number p.version) ∷ Key keyword.Ranks ∷ Number p.ranks ∷ Key keyword.Qubits ∷ [] in
    let rest = blocks_signs p.blocks ++ tapes_signs p.tapes in
    let front = sum_by-append name_size head (numbers_signs p.qubits ++ Key keyword.Buffer ∷ (numbers_signs p.buffers ++ rest)) in
    let qubits = sum_by-append name_size (numbers_signs p.qubits) (Key keyword.Buffer ∷ (numbers_signs p.buffers ++ rest)) in
    let key = sum_by-cons name_size (Key keyword.Buffer) (numbers_signs p.buffers ++ rest) in
    let buffers = sum_by-append name_size (numbers_signs p.buffers) rest in
    let last = sum_by-append name_size (blocks_signs p.blocks) (tapes_signs p.tapes) in
    let least = tapes-size p.tapes in
    omega (arith, all, same, front, qubits, key, buffers, last, least)
