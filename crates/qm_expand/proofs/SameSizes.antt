-- A text of version 2 with equal sizes is read as the text of version 1 that it is otherwise
use Rattle.std.proofs.Common.{◌≡◌, ◌∙◌, ℕ, zero, suc, ◌≤◌, Bool, true, false, List, [], ◌∷◌, ◌++◌, length, map, replicate, Some, Ok, refl, sym, ap, subst, arith}
use Rattle.std.specs.Prelude.{◌≢◌, All, codes, Result}
use Rattle.std.specs.Str.{bytes_eq}
use Rattle.std.proofs.lemmas.Slice.Eq.{bytes_eq-Decides}
use Rattle.std.proofs.lemmas.List.{length-replicate}
use Rattle.std.proofs.lemmas.List.Elements.{All-head, All-tail, All-replicate}
use Rattle.qm_instr.specs.Programs.{Programs}
use Rattle.qm_lex.specs.declared.tokens.Token.{Token}
use Rattle.qm_lex.specs.declared.tokens.TokenKind.{TokenKind}
use Rattle.qm_lex.specs.declared.tokens.TokenKind.TheVariants as kind
use Rattle.qm_parse.specs.declared.words.Keyword.TheVariants as keyword
use Rattle.qm_parse.specs.declared.words.Version.{Version}
use Rattle.qm_parse.specs.declared.words.Version.TheVariants as version
use Rattle.qm_parse.specs.declared.words.Action.TheVariants as action
use Rattle.qm_parse.specs.declared.words.Keyword.{Keyword}
use Rattle.qm_parse.specs.declared.words.Operand.TheVariants as operand
use Rattle.qm_parse.specs.declared.words.Verb.{Verb}
use Rattle.qm_parse.specs.Words.{Word, frame_word, verb_word, older_words, meaning, size_count}
use Rattle.qm_parse.specs.Signs.{Sign, Number, Key, Act, Ident, word_sign, sign, sign_of, signs_of, bytes_of}
use Rattle.qm_parse.specs.Trees.{Blocks, TapeLine, Program, ProgramMay}
use Rattle.qm_parse.specs.Spelling.{blocks_signs, tapes_signs, numbers_signs, program_signs}
use Rattle.qm_parse.specs.Nodes.{head_tokens}
use Rattle.qm_parse.specs.Faults.{Spells, IsShallow}
use Rattle.qm_parse.proofs.ListLemmas.{head-same, tail-same}
use Rattle.qm_expand.specs.Expansion.{sized, expanded}
use Rattle.qm_expand.specs.Reading.{MadeOf, Reads, lines_of}
use Rattle.qm_expand.specs.Laws.{written, older_text, same_text, older_word, IsOlderWord, HasSameSizes}
use Rattle.qm_expand.proofs.SignLemmas.{version-named, older-signs}
use Rattle.qm_expand.proofs.TwoVersions.{as_two, same-made}

-- ---- words
-- a word that isn't the first of a table means what the others say
not-first : (w : Word) (ws : List Word) (bytes : List ℕ) → bytes_eq bytes w.bytes ≡ false → meaning (w ∷ ws) bytes ≡ meaning ws bytes
not-first w ws bytes e = rw e refl

abbrev unreduce_verb : Verb
unreduce_verb = record { action = action.Unreduce; operands = Some operand.Slot ∷ Some operand.Slot ∷ Some operand.Root ∷ Some operand.Tag ∷ [] }

unreduce-is : older_word (codes "unreduce") ≡ Act unreduce_verb
unreduce-is = refl

treecast-is : older_word (codes "treecast") ≡ Ident (codes "treecast")
treecast-is = refl

untreecast-is : older_word (codes "untreecast") ≡ Ident (codes "untreecast")
untreecast-is = refl

-- the newer words
abbrev unreduces : Word
unreduces = frame_word (codes "unreduce") keyword.Unreduce

abbrev treecasts : Word
treecasts = verb_word (codes "treecast") action.Treecast (operand.Slot ∷ operand.Root ∷ operand.Tag ∷ [])

abbrev untreecasts : Word
untreecasts = verb_word (codes "untreecast") action.Untreecast (operand.Slot ∷ operand.Root ∷ operand.Tag ∷ [])

-- words that are seen otherwise have other bytes
other-bytes : (bytes word : List ℕ) → older_word bytes ≢ older_word word → bytes_eq bytes word ≡ false
other-bytes bytes word apart = by_test (bytes_eq bytes word) refl
  where
    by_test : (t : Bool) → bytes_eq bytes word ≡ t → bytes_eq bytes word ≡ false
    by_test true e = absurd (apart (ap older_word ((bytes_eq-Decides bytes word).0 e)))
    by_test false e = e

-- a token that is none of the newer words is the same in both versions
same-token : (k : TokenKind) (bytes : List ℕ) → IsOlderWord (sign version.One k bytes) → sign version.Two k bytes ≡ sign version.One k bytes
same-token kind.Number bytes n = refl
same-token kind.Symbol bytes n = refl
same-token kind.Word bytes n =
    ap (word_sign bytes)
    (not-first unreduces (treecasts ∷ untreecasts ∷ older_words) bytes (other-bytes bytes (codes "unreduce") n.0)
    ∙ not-first treecasts (untreecasts ∷ older_words) bytes (other-bytes bytes (codes "treecast") n.1)
    ∙ not-first untreecasts older_words bytes (other-bytes bytes (codes "untreecast") n.2))

-- none of these tokens is a newer word
abbrev Lacks : List Sign → Type 0
Lacks [] = Unit {0}
Lacks (t ∷ ts) = IsOlderWord t × Lacks ts

lacks-all : (ts : List Sign) → All IsOlderWord ts → Lacks ts
lacks-all [] h = tt
lacks-all (t ∷ ts) h = (All-head IsOlderWord t ts h, lacks-all ts (All-tail IsOlderWord t ts h))

number-other : (n : ℕ) → IsOlderWord (Number n)
number-other n = (
  (λ e. (let h : Number n ≡ Act unreduce_verb = e ∙ unreduce-is in cc)),
  (λ e. (let h : Number n ≡ Ident (codes "treecast") = e ∙ treecast-is in cc)),
  (λ e. (let h : Number n ≡ Ident (codes "untreecast") = e ∙ untreecast-is in cc)),
)

key-other : (k : Keyword) → IsOlderWord (Key k)
key-other k = (
  (λ e. (let h : Key k ≡ Act unreduce_verb = e ∙ unreduce-is in cc)),
  (λ e. (let h : Key k ≡ Ident (codes "treecast") = e ∙ treecast-is in cc)),
  (λ e. (let h : Key k ≡ Ident (codes "untreecast") = e ∙ untreecast-is in cc)),
)

lacks-numbers : (n m : ℕ) (ts : List Sign) → Lacks ts → Lacks (replicate n (Number m) ++ ts)
lacks-numbers zero m ts h = h
lacks-numbers (suc n) m ts h = (number-other m, lacks-numbers n m ts h)

lacks-same : (ranks qubits buffer : ℕ) (rest : List Sign) → Lacks rest → Lacks (same_text ranks qubits buffer rest)
lacks-same ranks qubits buffer rest h =
    let behind = lacks-numbers ranks buffer rest h in
    let sizes = lacks-numbers ranks qubits (Key keyword.Buffer ∷ (replicate ranks (Number buffer) ++ rest)) (key-other keyword.Buffer, behind) in
    (key-other keyword.Qmpi, (number-other 2, (key-other keyword.Ranks, (number-other ranks, (key-other keyword.Qubits, sizes)))))

same-tokens : (text : List ℕ) (tokens : List Token) (ts : List Sign) → map (sign_of version.One text) tokens ≡ ts → Lacks ts → map (sign_of version.Two text) tokens ≡ ts
same-tokens text [] ts e h = e
same-tokens text (u ∷ us) [] e h = cc
same-tokens text (u ∷ us) (t ∷ ts) e h =
    let is : sign_of version.One text u ≡ t = head-same e in
    let other : IsOlderWord (sign_of version.One text u) = subst IsOlderWord (sym is) h.0 in
    ap (λ (x : Sign). x ∷ map (sign_of version.Two text) us) (same-token u.kind (bytes_of text u) other ∙ is) ∙ ap (λ z. t ∷ z) (same-tokens text us ts (tail-same e) h.1)

-- ---- the version that a text names
newer-signs : (text : List ℕ) (tokens : List Token) (ranks qubits buffer : ℕ) (rest : List Sign) → written text tokens ≡ same_text ranks qubits buffer rest → Lacks rest
    → signs_of text tokens ≡ same_text ranks qubits buffer rest
newer-signs text tokens ranks qubits buffer rest e h =
    ap (λ v. map (sign_of v text) tokens) (version-named text tokens _ 2 _ e) ∙ same-tokens text tokens (same_text ranks qubits buffer rest) e (lacks-same ranks qubits buffer rest h)

-- ---- the tree of the first text
abbrev whole : Version → ℕ → List ℕ → List ℕ → Blocks → List TapeLine → Program
whole v ranks qubits buffers blocks tapes = record { version = v; ranks = ranks; qubits = qubits; buffers = buffers; blocks = blocks; tapes = tapes }

record IsOlder (m : Program) (ranks qubits buffer : ℕ) (rest : List Sign) : Type 0 where
  is : m ≡ whole version.One ranks (qubits ∷ []) (buffer ∷ []) m.blocks m.tapes
  spelled : blocks_signs m.blocks ++ tapes_signs m.tapes ≡ rest

number-same : {v w : ℕ} → Number v ≡ Number w → v ≡ w
number-same e = cc

older-tree : (v : Version) (n : ℕ) (qs bs : List ℕ) (blocks : Blocks) (tapes : List TapeLine) (ranks qubits buffer : ℕ) (rest : List Sign)
    → length qs ≡ size_count v n → length bs ≡ size_count v n → program_signs (whole v n qs bs blocks tapes) ≡ older_text ranks qubits buffer rest
    → IsOlder (whole v n qs bs blocks tapes) ranks qubits buffer rest
older-tree version.Two n qs bs blocks tapes ranks qubits buffer rest l k e = absurd (let h : 2 ≡ 1 = number-same (head-same (tail-same e)) in omega (arith, h))
older-tree version.One n [] bs blocks tapes ranks qubits buffer rest l k e = absurd (omega (arith, l))
older-tree version.One n (q ∷ r ∷ qs) bs blocks tapes ranks qubits buffer rest l k e = absurd (omega (arith, l))
older-tree version.One n (q ∷ []) [] blocks tapes ranks qubits buffer rest l k e = absurd (omega (arith, k))
older-tree version.One n (q ∷ []) (b ∷ c ∷ bs) blocks tapes ranks qubits buffer rest l k e = absurd (omega (arith, k))
older-tree version.One n (q ∷ []) (b ∷ []) blocks tapes ranks qubits buffer rest l k e =
    let f = tail-same (tail-same (tail-same e)) in
    let g = tail-same (tail-same f) in
    let h = tail-same (tail-same g) in
    let x : n ≡ ranks = number-same (head-same f) in
    let y : q ≡ qubits = number-same (head-same g) in
    let z : b ≡ buffer = number-same (head-same h) in
    record {
      is = ap (λ n. whole version.One n (q ∷ []) (b ∷ []) blocks tapes) x ∙ ap (λ q. whole version.One ranks (q ∷ []) (b ∷ []) blocks tapes) y
          ∙ ap (λ b. whole version.One ranks (qubits ∷ []) (b ∷ []) blocks tapes) z;
      spelled = tail-same h;
    }

-- ---- the tree of the second text
numbers-written : (n m : ℕ) (ts : List Sign) → numbers_signs (replicate n m) ++ ts ≡ replicate n (Number m) ++ ts
numbers-written zero m ts = refl
numbers-written (suc n) m ts = ap (λ z. Number m ∷ z) (numbers-written n m ts)

shallow-numbers : (n m : ℕ) (ts : List Sign) → IsShallow 0 ts → IsShallow 0 (replicate n (Number m) ++ ts)
shallow-numbers zero m ts h = h
shallow-numbers (suc n) m ts h = shallow-numbers n m ts h

module _ (ranks qubits buffer : ℕ) (blocks : Blocks) (tapes : List TapeLine) where
  abbrev first : Program
  first = whole version.One ranks (qubits ∷ []) (buffer ∷ []) blocks tapes

  abbrev second : Program
  second = whole version.Two ranks (replicate ranks qubits) (replicate ranks buffer) blocks tapes

  abbrev behind : List Sign
  behind = blocks_signs blocks ++ tapes_signs tapes

  second-spelled : program_signs second ≡ same_text ranks qubits buffer behind
  second-spelled =
      ap (λ z. Key keyword.Qmpi ∷ Number 2 ∷ Key keyword.Ranks ∷ Number ranks ∷ Key keyword.Qubits ∷ z)
      (numbers-written ranks qubits (Key keyword.Buffer ∷ (numbers_signs (replicate ranks buffer) ++ behind))
      ∙ ap (λ z. replicate ranks (Number qubits) ++ Key keyword.Buffer ∷ z) (numbers-written ranks buffer behind))

  second-may : ProgramMay first → ProgramMay second
  second-may m =
      let q = All-head (λ (n : ℕ). (1 ≤ n) × (n ≤ 16)) qubits [] m.qubits.each in
      let b = All-head (λ (n : ℕ). (1 ≤ n) × (n ≤ 8)) buffer [] m.buffers.each in
      record {
        some_ranks = m.some_ranks;
        few_ranks = m.few_ranks;
        qubits = record { count = length-replicate ranks qubits; each = All-replicate (λ (n : ℕ). (1 ≤ n) × (n ≤ 16)) ranks qubits q };
        buffers = record { count = length-replicate ranks buffer; each = All-replicate (λ (n : ℕ). (1 ≤ n) × (n ≤ 8)) ranks buffer b };
        blocks = m.blocks;
        tapes = m.tapes;
      }

  second-shallow : IsShallow 0 (older_text ranks qubits buffer behind) → IsShallow 0 (same_text ranks qubits buffer behind)
  second-shallow h = shallow-numbers ranks qubits (Key keyword.Buffer ∷ (replicate ranks (Number buffer) ++ behind)) (shallow-numbers ranks buffer behind h)

  second-spells : (signs others : List Sign) → signs ≡ older_text ranks qubits buffer behind → others ≡ same_text ranks qubits buffer behind → Spells signs first → Spells others second
  second-spells signs others e f s = record {
    spelled = second-spelled ∙ sym f;
    may = second-may s.may;
    shallow = subst (λ (xs : List Sign). IsShallow 0 xs) (sym f) (second-shallow (subst (λ (xs : List Sign). IsShallow 0 xs) e s.shallow));
  }

-- ---- texts
same-lexed : (r : Result (List Token) ℕ) (us vs : List Token) → r ≡ Ok us → r ≡ Ok vs → us ≡ vs
same-lexed r us vs a b = let h : ◌≡◌ {A = Result (List Token) ℕ} (Ok us) (Ok vs) = sym a ∙ b in cc

of-tree : (text other : List ℕ) (tokens others : List Token) (p : Programs) (m : Program) (ranks qubits buffer : ℕ) (rest : List Sign)
    → signs_of text tokens ≡ older_text ranks qubits buffer rest → signs_of other others ≡ same_text ranks qubits buffer rest
    → Spells (signs_of text tokens) m → expanded (lines_of tokens) m ≡ Ok p → MadeOf other (Ok (as_two p)) others
of-tree text other tokens others p m ranks qubits buffer rest e f s x =
    let o = older-tree m.version m.ranks m.qubits m.buffers m.blocks m.tapes ranks qubits buffer rest s.may.qubits.count s.may.buffers.count (s.spelled ∙ e) in
    let same : rest ≡ blocks_signs m.blocks ++ tapes_signs m.tapes = sym o.spelled in
    let first_spells : Spells (signs_of text tokens) (first ranks qubits buffer m.blocks m.tapes) = subst (λ (n : Program). Spells (signs_of text tokens) n) o.is s in
    let second_spells = second-spells ranks qubits buffer m.blocks m.tapes (signs_of text tokens) (signs_of other others)
    (e ∙ ap (older_text ranks qubits buffer) same) (f ∙ ap (same_text ranks qubits buffer) same) first_spells in
    let q = second ranks qubits buffer m.blocks m.tapes in
    record {
      program = q;
      spelled = second_spells;
      expands = same-made (lines_of tokens) (lines_of others) (head_tokens (first ranks qubits buffer m.blocks m.tapes)) (head_tokens q) ranks m.blocks m.tapes (sized (first ranks qubits buffer m.blocks m.tapes)) p
          (ap (λ (n : Program). expanded (lines_of tokens) n) (sym o.is) ∙ x);
    }

pub same-sizes : (one two : List ℕ) (p : Programs) → HasSameSizes one two → Reads one (Ok p) → Reads two (Ok (record p { version = 2 }))
same-sizes one two p h r =
    let older = h.older in
    let newer = h.newer in
    let tokens : List Token = r.0 in
    let made : MadeOf one (Ok p) tokens = r.2 in
    let same = same-lexed _ older.0 tokens older.1 r.1 in
    let first = subst (λ (ts : List Token). written one ts ≡ older_text h.ranks h.qubits h.buffer h.rest) same older.2 in (
      newer.0,
      newer.1,
      of-tree one two tokens newer.0 p made.program h.ranks h.qubits h.buffer h.rest
          (older-signs one tokens _ _ first) (newer-signs two newer.0 h.ranks h.qubits h.buffer h.rest newer.2 (lacks-all h.rest h.none)) made.spelled made.expands,
    )
