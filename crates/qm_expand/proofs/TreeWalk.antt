-- The walk over the nodes of a source tree is its expansion
use Rattle.std.proofs.Common.{◌≡◌, ◌∙◌, ℕ, zero, suc, ◌+◌, ◌-◌, ◌<◌, ◌≤◌, min, Bool, true, false, nat_lt, nat_le, List, [], ◌∷◌, ◌++◌, length, map, take, drop, Ok, Err, refl, sym, ap, subst, arith, append_assoc, length-append, length-drop, if◌then◌else◌, ◌==◌, ◌&&◌}
use Rattle.std.specs.Prelude.{All}
use Rattle.std.proofs.Math.Seq.{drop-append_seam, take-append_seam}
use Rattle.std.proofs.lemmas.Bool.Decides.{nat_tests}
use Rattle.std.proofs.lemmas.List.{drop-drop}
use Rattle.std.proofs.lemmas.List.Sums.{sum_by-cons, get_or-le-sum_by}
use Rattle.std.proofs.lemmas.List.Elements.{All-head, All-tail}
use Rattle.qm_instr.specs.Programs.{Programs, RankProgram, idle_rank, rank_of}
use Rattle.qm_lex.specs.declared.tokens.Token.{Token}
use Rattle.qm_lex.specs.Spans.{LieIn}
use Rattle.qm_parse.specs.declared.tree.Node.{Node}
use Rattle.qm_parse.specs.declared.tree.What.TheVariants as what
use Rattle.qm_parse.specs.declared.words.Keyword.TheVariants as keyword
use Rattle.qm_parse.specs.Signs.{Sign, Key, signs_of, verbs_of}
use Rattle.qm_parse.specs.Trees.{Body, Blocks, ForAll, ForEach, TapeLine, Program, BodyMay, BlocksMay, ProgramMay}
use Rattle.qm_parse.specs.declared.words.Version.{Version}
use Rattle.qm_parse.specs.declared.words.Version.TheVariants as version
use Rattle.qm_parse.specs.Words.{size_count, version_number}
use Rattle.qm_parse.specs.Spelling.{body_signs, each_signs, blocks_signs, tapes_signs, numbers_signs, program_signs}
use Rattle.qm_parse.specs.Nodes.{around, body_nodes, each_nodes, blocks_nodes, tapes_nodes, numbers_nodes, head_tokens, head_nodes, rest_nodes, program_nodes}
use Rattle.qm_parse.specs.Faults.{Spells}
use Rattle.qm_expand.specs.Steps.{Outcome, ◌>>=◌, OutOfRange}
use Rattle.qm_expand.specs.Drafts.{Draft, draft, with_outcomes}
use Rattle.qm_expand.specs.Reading.{lines_of}
use Rattle.qm_expand.specs.Expansion.{rank_scope, rank_expanded, same_expanded, each_expanded, blocks_expanded, with_tapes, sized_programs, sized, expanded}
use Rattle.qm_expand.specs.Walk.{Words, words_in, own_len, walk, is_all, Walked, blocks_walked, is_own, outcomes_in, tape_of, appended, tapes_walked, numbers_in, version_numbered, are_sizes, are_ranks, sized_walk, ranks_walk, walked, tree_walked}
use Rattle.qm_expand.proofs.StepLemmas.{bind-assoc, bind-same}
use Rattle.qm_expand.proofs.SignLemmas.{Says, says-at, says-split, says-all}
use Rattle.qm_expand.proofs.BodyWalk.{body-walked}
use Rattle.qm_expand.proofs.OutcomeLemmas.{length-with_outcomes}
use Rattle.qm_expand.proofs.SizeLemmas.{numbers-are, sizes-are}
use Rattle.qm_expand.proofs.TapeLemmas.{tape_total, known-same, keeps-blocks, sized-empty, outcome_total, total-outcomes, outcomes-fit}

-- ---- tape lines
digits-outcomes : (ms : List Bool) → map (λ d. d == 49) (map (λ m. if m then 49 else 48) ms) ≡ ms
digits-outcomes [] = refl
digits-outcomes (true ∷ ms) = ap (λ z. true ∷ z) (digits-outcomes ms)
digits-outcomes (false ∷ ms) = ap (λ z. false ∷ z) (digits-outcomes ms)

own-of : (own : Bool) → is_own (if own then what.Own else what.Protocol) ≡ own
own-of true = refl
own-of false = refl

tape-within : (own : Bool) (rank : ℕ) (p : Programs) → rank < length p.ranks → length (tape_of own (rank_of p rank)) ≤ tape_total p
tape-within own rank p low = omega (arith, get_or-le-sum_by (λ (r : RankProgram). length r.own + length r.protocol) p.ranks rank idle_rank low, part own (rank_of p rank))
  where
    part : (b : Bool) (r : RankProgram) → length (tape_of b r) ≤ length r.own + length r.protocol
    part true r = omega arith
    part false r = omega arith

module _ (words : Words) where
  appended-ok : (line : ℕ) (own : Bool) (rank : ℕ) (ms : List Bool) (p : Programs) → rank < length p.ranks → tape_total p + length ms ≤ 1048576
      → appended line own rank ms p ≡ Ok (with_outcomes own rank ms p)
  appended-ok line own rank ms p low few =
      let one = tape-within own rank p low in
      let fits : length (tape_of own (rank_of p rank)) + length ms ≤ 1048576 = omega (arith, one, few) in
      let yes : nat_le (length (tape_of own (rank_of p rank)) + length ms) 1048576 ≡ true = grind (arith, nat_tests) in
      rw yes refl

  tapes-walk : (ts : List TapeLine) (ranks at base : ℕ) (p : Programs) → Says words at (tapes_signs ts) → All (λ t. t.rank < ranks) ts → length p.ranks ≡ ranks
      → tape_total p + outcome_total ts ≤ 1048576 → tapes_walked words (tapes_nodes at base ts) p ≡ Ok (with_tapes ts p)
  tapes-walk [] ranks at base p h m n few = refl
  tapes-walk (t ∷ ts) ranks at base p h m n few =
      let low : t.rank < length p.ranks = let k = All-head (λ t. t.rank < ranks) t ts m in omega (arith, k, n) in
      let yes : nat_lt t.rank (length p.ranks) ≡ true = grind (arith, nat_tests) in
      let sum = sum_by-cons (λ (t : TapeLine). length t.outcomes) t ts in
      let two : at + 2 ≡ at + 1 + 1 = omega arith in
      let word : outcomes_in (words.bytes (at + 2)) ≡ t.outcomes = ap (λ k. outcomes_in (words.bytes k)) two ∙ ap outcomes_in h.1.1.0 ∙ digits-outcomes t.outcomes in
      let q = with_outcomes t.own t.rank t.outcomes p in
      let more = tapes_nodes (at + 3) (base + 3) ts in
      let one : (if nat_lt t.rank (length p.ranks) then appended (words.lines at) (is_own (if t.own then what.Own else what.Protocol)) t.rank (outcomes_in (words.bytes (at + 2))) p else Err (OutOfRange (words.lines at))) ≡ Ok q =
      ap (λ (b : Bool). if b then appended (words.lines at) (is_own (if t.own then what.Own else what.Protocol)) t.rank (outcomes_in (words.bytes (at + 2))) p else Err (OutOfRange (words.lines at))) yes
      ∙ ap (λ (b : Bool). appended (words.lines at) b t.rank (outcomes_in (words.bytes (at + 2))) p) (own-of t.own)
      ∙ ap (λ (ms : List Bool). appended (words.lines at) t.own t.rank ms p) word
      ∙ appended-ok (words.lines at) t.own t.rank t.outcomes p low (omega (arith, few, sum)) in
      ap (λ (o : Outcome Programs). o >>= λ q. tapes_walked words more q) one
      ∙ tapes-walk ts ranks (at + 3) (base + 3) q (says-at words (tapes_signs ts) (at + 1 + 1 + 1) (at + 3) (omega arith) h.1.1.1) (All-tail (λ t. t.rank < ranks) t ts m)
      (length-with_outcomes t.own t.rank p t.outcomes ∙ n) (omega (arith, few, sum, total-outcomes t.own t.rank t.outcomes p low))

  -- ---- blocks
  abbrev ended : ℕ → Outcome Draft → Outcome Walked
  ended used o = o >>= λ e. Ok (record { draft = e; used = used })

  -- the block of all ranks, for the next of them; its first token and its node have these numbers
  all-step : (t h : ℕ) (body : Body) (tapes : List Node) (n rank used : ℕ) (d : Draft) → Says words (t + 1) (body_signs body) → BodyMay body
      → let inner = body_nodes (t + 1) (h + 1) body in
      let nodes = around what.All t h inner ++ tapes in
      blocks_walked words nodes h (suc n) rank 0 used d ≡ (rank_expanded words.lines rank (t + 1) body d >>= λ e. blocks_walked words nodes h n (rank + 1) 0 (1 + length inner) e)
  all-step t h body tapes n rank used d s m =
      let inner = body_nodes (t + 1) (h + 1) body in
      let nodes = around what.All t h inner ++ tapes in
      let count = length-append inner tapes in
      let len : min (h + 1 + length inner - (h + 0 + 1)) (length (inner ++ tapes)) ≡ length inner = min-len (length inner) (length tapes) (length (inner ++ tapes)) count in
      let fits : length inner ≤ length nodes = omega (arith, count) in
      let next : Draft → Outcome Walked = λ e. blocks_walked words nodes h n (rank + 1) 0 (1 + length inner) e in
      ap (λ k. walk words (length nodes) (rank_scope d.programs rank) (h + 0 + 1) (take k (inner ++ tapes)) d >>= λ e. blocks_walked words nodes h n (rank + 1) 0 (1 + k) e) len
      ∙ ap (λ xs. walk words (length nodes) (rank_scope d.programs rank) (h + 0 + 1) xs d >>= next) (take-append_seam inner tapes)
      ∙ ap (λ k. walk words (length nodes) (rank_scope d.programs rank) k inner d >>= next) (let k : h + 0 + 1 ≡ h + 1 = omega arith in k)
      ∙ ap (λ o. o >>= next) (body-walked words (length nodes) (rank_scope d.programs rank) body (t + 1) (h + 1) d s m fits)
    where
      min-len : (l r k : ℕ) → k ≡ l + r → min (h + 1 + l - (h + 0 + 1)) k ≡ l
      min-len l r k e = omega (arith, e)

  all-walked : (t h : ℕ) (body : Body) (tapes : List Node) (n rank : ℕ) (d : Draft) → Says words (t + 1) (body_signs body) → BodyMay body
      → let inner = body_nodes (t + 1) (h + 1) body in
      blocks_walked words (around what.All t h inner ++ tapes) h n rank 0 (1 + length inner) d ≡ ended (1 + length inner) (same_expanded words.lines (t + 1) body n rank d)
  all-walked t h body tapes zero rank d s m = refl
  all-walked t h body tapes (suc n) rank d s m =
      let inner = body_nodes (t + 1) (h + 1) body in
      let nodes = around what.All t h inner ++ tapes in
      all-step t h body tapes n rank (1 + length inner) d s m
      ∙ bind-same (rank_expanded words.lines rank (t + 1) body d) (λ e. blocks_walked words nodes h n (rank + 1) 0 (1 + length inner) e) (λ e. ended (1 + length inner) (same_expanded words.lines (t + 1) body n (rank + 1) e))
      (λ e. all-walked t h body tapes n (rank + 1) e s m)
      ∙ sym (bind-assoc (rank_expanded words.lines rank (t + 1) body d) (λ e. same_expanded words.lines (t + 1) body n (rank + 1) e) (λ e. Ok (record { draft = e; used = 1 + length inner })))

  -- the block at the front of these nodes, and the ranks behind it
  abbrev blocks-at : List Node → (h n rank at : ℕ) → Draft → List Node → Outcome Walked
  blocks-at nodes h n rank at d [] = blocks_walked words nodes h n (rank + 1) at at d
  blocks-at nodes h n rank at d (b ∷ rest) =
      let len = own_len b (h + at + 1) (length rest) in
      walk words (length nodes) (rank_scope d.programs rank) (h + at + 1) (take len rest) d
      >>= λ e. blocks_walked words nodes h n (rank + 1) (if is_all b.what then at else at + 1 + len) (at + 1 + len) e

  -- the blocks of the ranks from this one on
  each-walked : (h : ℕ) (bodies : List Body) (nodes tapes : List Node) (rank token at base : ℕ) (d : Draft) → base ≡ h + at → drop at nodes ≡ each_nodes token base bodies ++ tapes
      → Says words token (each_signs rank bodies) → All BodyMay bodies
      → blocks_walked words nodes h (length bodies) rank at at d ≡ ended (at + length (each_nodes token base bodies)) (each_expanded words.lines token bodies rank d)
  each-walked h [] nodes tapes rank token at base d b there s m = let e : at ≡ at + 0 = omega arith in ap (λ n. Ok (record { draft = d; used = n })) e
  each-walked h (body ∷ bs) nodes tapes rank token at base d b there s m =
      let inner = body_nodes (token + 2) (base + 1) body in
      let next = token + 3 + length (body_signs body) in
      let more = each_nodes next (base + suc (length inner)) bs in
      let first = around what.Block token base inner in
      let behind = inner ++ (more ++ tapes) in
      let x : Node = record { what = what.Block; token = token; value = 0; stop = base + 1 + length inner } in
      let split : drop at nodes ≡ x ∷ behind = there ∙ ap (λ z. x ∷ z) (append_assoc inner more tapes) in
      let count = length-append inner (more ++ tapes) in
      let size : length nodes - at ≡ suc (length behind) = sym (length-drop at nodes) ∙ ap length split in
      let fits : length inner ≤ length nodes = omega (arith, count, size) in
      let len : min (base + 1 + length inner - (h + at + 1)) (length behind) ≡ length inner = min-len (length inner) (length (more ++ tapes)) (length behind) base at b count in
      let says = says-split words (body_signs body) (Key keyword.End ∷ each_signs (rank + 1) bs) (token + 1 + 1) s.1.1 in
      let place : at + 1 + length inner ≡ at + length first = omega arith in
      let end : Draft → Outcome Walked = λ e. Ok (record { draft = e; used = at + length (first ++ more) }) in
      ap
      (λ (xs : List Node). blocks-at nodes h (length bs) rank at d xs) split
      ∙ ap (λ k. walk words (length nodes) (rank_scope d.programs rank) (h + at + 1) (take k behind) d >>= λ e. blocks_walked words nodes h (length bs) (rank + 1) (at + 1 + k) (at + 1 + k) e) len
      ∙ ap (λ xs. walk words (length nodes) (rank_scope d.programs rank) (h + at + 1) xs d >>= λ e. blocks_walked words nodes h (length bs) (rank + 1) (at + 1 + length inner) (at + 1 + length inner) e) (take-append_seam inner (more ++ tapes))
      ∙ ap (λ k. walk words (length nodes) (rank_scope d.programs rank) k inner d >>= λ e. blocks_walked words nodes h (length bs) (rank + 1) (at + 1 + length inner) (at + 1 + length inner) e) (let k : h + at + 1 ≡ base + 1 = omega (arith, b) in k)
      ∙ ap (λ o. o >>= λ e. blocks_walked words nodes h (length bs) (rank + 1) (at + 1 + length inner) (at + 1 + length inner) e)
      (body-walked words (length nodes) (rank_scope d.programs rank) body (token + 2) (base + 1) d (says-at words (body_signs body) (token + 1 + 1) (token + 2) (omega arith) says.0) (All-head BodyMay body bs m) fits)
      ∙ bind-same (rank_expanded words.lines rank (token + 2) body d) (λ e. blocks_walked words nodes h (length bs) (rank + 1) (at + 1 + length inner) (at + 1 + length inner) e) (λ e. each_expanded words.lines next bs (rank + 1) e >>= end)
      (λ e.
      each-walked h bs nodes tapes (rank + 1) next (at + 1 + length inner) (base + suc (length inner)) e (omega (arith, b))
      (ap (λ k. drop k nodes) place ∙ sym (drop-drop (length first) at nodes) ∙ ap (drop (length first)) split ∙ drop-append_seam first (more ++ tapes))
      (says-at words (each_signs (rank + 1) bs) (token + 1 + 1 + length (body_signs body) + 1) next (omega arith) says.1.1) (All-tail BodyMay body bs m)
      ∙ ap (λ k. each_expanded words.lines next bs (rank + 1) e >>= λ e. Ok (record { draft = e; used = k })) (let k : at + 1 + length inner + length more ≡ at + length (first ++ more) = omega (arith, length-append first more) in k))
      ∙ sym (bind-assoc (rank_expanded words.lines rank (token + 2) body d) (λ e. each_expanded words.lines next bs (rank + 1) e) end)
    where
      min-len : (l r k base at : ℕ) → base ≡ h + at → k ≡ l + r → min (base + 1 + l - (h + at + 1)) k ≡ l
      min-len l r k base at e f = omega (arith, e, f)

  blocks-walk : (t h : ℕ) (b : Blocks) (ranks : ℕ) (tapes : List Node) (d : Draft) → 1 ≤ ranks → BlocksMay ranks b → Says words t (blocks_signs b)
      → blocks_walked words (blocks_nodes t h b ++ tapes) h ranks 0 0 0 d ≡ ended (length (blocks_nodes t h b)) (blocks_expanded words.lines t ranks b d)
  blocks-walk t h (ForAll body) zero tapes d some m s = absurd (omega (arith, some))
  blocks-walk t h (ForAll body) (suc n) tapes d some m s =
      let w = says-split words (body_signs body) (Key keyword.End ∷ []) (t + 1) s.1 in
      let inner = body_nodes (t + 1) (h + 1) body in
      let nodes = around what.All t h inner ++ tapes in
      all-step t h body tapes n 0 0 d w.0 m
      ∙ bind-same (rank_expanded words.lines 0 (t + 1) body d) (λ e. blocks_walked words nodes h n 1 0 (1 + length inner) e) (λ e. ended (1 + length inner) (same_expanded words.lines (t + 1) body n 1 e))
      (λ e. all-walked t h body tapes n 1 e w.0 m)
      ∙ sym (bind-assoc (rank_expanded words.lines 0 (t + 1) body d) (λ e. same_expanded words.lines (t + 1) body n 1 e) (λ e. Ok (record { draft = e; used = 1 + length inner })))
      ∙ ap (λ k. ended k (same_expanded words.lines (t + 1) body (suc n) 0 d)) (let k : 1 + length inner ≡ suc (length inner) = omega arith in k)
  blocks-walk t h (ForEach bodies) ranks tapes d some m s =
      let nodes = each_nodes t h bodies ++ tapes in
      ap (λ n. blocks_walked words nodes h n 0 0 0 d) (sym m.0)
      ∙ each-walked h bodies nodes tapes 0 t 0 h d (omega arith) refl s m.1
      ∙ ap (λ k. ended k (each_expanded words.lines t bodies 0 d)) (let k : 0 + length (each_nodes t h bodies) ≡ length (each_nodes t h bodies) = omega arith in k)

  -- ---- programs
  -- the blocks and the tape lines, behind the head
  rest-walked : (p : Program) (t h : ℕ) → ProgramMay p → Says words t (blocks_signs p.blocks ++ tapes_signs p.tapes) → outcome_total p.tapes ≤ 1048576
      → (blocks_walked words (rest_nodes t h p) h p.ranks 0 0 0 (draft (sized p) 0) >>= λ w. tapes_walked words (drop w.used (rest_nodes t h p)) w.draft.programs)
      ≡ (blocks_expanded words.lines t p.ranks p.blocks (draft (sized p) 0) >>= λ d. Ok (with_tapes p.tapes d.programs))
  rest-walked p t h m s few =
      let blocks = blocks_nodes t h p.blocks in
      let tapes = tapes_nodes (t + length (blocks_signs p.blocks)) (h + length blocks) p.tapes in
      let start = draft (sized p) 0 in
      let empty = sized-empty p m in
      let w = says-split words (blocks_signs p.blocks) (tapes_signs p.tapes) t s in
      let rest : Walked → Outcome Programs = λ w. tapes_walked words (drop w.used (blocks ++ tapes)) w.draft.programs in
      let all = blocks_expanded words.lines t p.ranks p.blocks start in
      ap (λ o. o >>= rest) (blocks-walk t h p.blocks p.ranks tapes start m.some_ranks m.blocks w.0)
      ∙ bind-assoc all (λ e. Ok (record { draft = e; used = length blocks })) rest
      ∙ known-same start all (λ e. rest (record { draft = e; used = length blocks })) (λ e. Ok (with_tapes p.tapes e.programs)) (keeps-blocks words.lines t p.ranks p.blocks start)
      (λ e k.
      ap (λ xs. tapes_walked words xs e.programs) (drop-append_seam blocks tapes)
      ∙ tapes-walk p.tapes p.ranks (t + length (blocks_signs p.blocks)) (h + length blocks) e.programs w.1 m.tapes (k.0 ∙ empty.0) (omega (arith, k.1, empty.1, few)))

  -- the head: its sizes are taken from their nodes
  ranks-are : (ranks count nodes : ℕ) → 1 ≤ ranks → ranks ≤ 16 → count + count ≤ nodes → are_ranks ranks count nodes ≡ true
  ranks-are ranks count nodes a b c =
      let x : nat_le 1 ranks ≡ true = grind (arith, nat_tests) in
      let y : nat_le ranks 16 ≡ true = grind (arith, nat_tests) in
      let z : nat_le (count + count) nodes ≡ true = grind (arith, nat_tests) in
      rw (x, y, z) refl

  head-walked : (v : Version) (ranks : ℕ) (qubits buffers rest : List Node) → 1 ≤ ranks → ranks ≤ 16 → length qubits ≡ size_count v ranks → length buffers ≡ size_count v ranks
      → are_sizes 16 qubits ≡ true → are_sizes 8 buffers ≡ true
      → let start = draft (sized_programs v ranks (numbers_in qubits) (numbers_in buffers)) 0 in
      ranks_walk words v ranks (qubits ++ (buffers ++ rest))
      ≡ (blocks_walked words rest (2 + length qubits + length buffers) ranks 0 0 0 start >>= λ w. tapes_walked words (drop w.used rest) w.draft.programs)
  head-walked v ranks qubits buffers rest some few l k slots halves =
      let nodes = qubits ++ (buffers ++ rest) in
      let count = size_count v ranks in
      let all = length-append qubits (buffers ++ rest) in
      let more = length-append buffers rest in
      let first : take count nodes ≡ qubits = ap (λ n. take n nodes) (sym l) ∙ take-append_seam qubits (buffers ++ rest) in
      let behind : drop count nodes ≡ buffers ++ rest = ap (λ n. drop n nodes) (sym l) ∙ drop-append_seam qubits (buffers ++ rest) in
      let second : take count (drop count nodes) ≡ buffers = ap (take count) behind ∙ ap (λ n. take n (buffers ++ rest)) (sym k) ∙ take-append_seam buffers rest in
      let last : drop count (drop count nodes) ≡ rest = ap (drop count) behind ∙ ap (λ n. drop n (buffers ++ rest)) (sym k) ∙ drop-append_seam buffers rest in
      let size : 2 + count + count ≡ 2 + length qubits + length buffers = omega (arith, l, k) in
      let both : are_sizes 16 qubits && are_sizes 8 buffers ≡ true = rw (slots, halves) refl in
      let head = 2 + length qubits + length buffers in
      let made : Outcome Programs = blocks_walked words rest head ranks 0 0 0 (draft (sized_programs v ranks (numbers_in qubits) (numbers_in buffers)) 0) >>= λ w. tapes_walked words (drop w.used rest) w.draft.programs in
      ap (λ (b : Bool). if b then sized_walk words v ranks (take count nodes) (take count (drop count nodes)) (2 + count + count) (drop count (drop count nodes)) else Err (OutOfRange 1))
      (ranks-are ranks count (length nodes) some few (omega (arith, all, more, l, k)))
      ∙ ap (λ xs. sized_walk words v ranks xs (take count (drop count nodes)) (2 + count + count) (drop count (drop count nodes))) first
      ∙ ap (λ xs. sized_walk words v ranks qubits xs (2 + count + count) (drop count (drop count nodes))) second
      ∙ ap (λ n. sized_walk words v ranks qubits buffers n (drop count (drop count nodes))) size
      ∙ ap (λ xs. sized_walk words v ranks qubits buffers head xs) last
      ∙ ap (λ (b : Bool). if b then made else Err (OutOfRange 1)) both

  version-is : (v : Version) → version_numbered (version_number v) ≡ v
  version-is version.One = refl
  version-is version.Two = refl

  length-numbers : (at base : ℕ) (ns : List ℕ) → length (numbers_nodes at base ns) ≡ length ns
  length-numbers at base [] = refl
  length-numbers at base (n ∷ ns) = ap (λ k. suc k) (length-numbers (at + 1) (base + 1) ns)

  length-number_signs : (ns : List ℕ) → length (numbers_signs ns) ≡ length ns
  length-number_signs [] = refl
  length-number_signs (n ∷ ns) = ap (λ k. suc k) (length-number_signs ns)

  -- what the tokens behind the head say
  says-rest : (p : Program) → Says words 0 (program_signs p) → Says words (head_tokens p) (blocks_signs p.blocks ++ tapes_signs p.tapes)
  says-rest p h =
      let rest = blocks_signs p.blocks ++ tapes_signs p.tapes in
      let a = says-split words (numbers_signs p.qubits) (Key keyword.Buffer ∷ (numbers_signs p.buffers ++ rest)) 5 h.1.1.1.1.1 in
      let b = says-split words (numbers_signs p.buffers) rest (5 + length (numbers_signs p.qubits) + 1) a.1.1 in
      says-at words rest (5 + length (numbers_signs p.qubits) + 1 + length (numbers_signs p.buffers)) (head_tokens p)
      (omega (arith, length-number_signs p.qubits, length-number_signs p.buffers)) b.1

  program-walked : (p : Program) → ProgramMay p → Says words 0 (program_signs p) → outcome_total p.tapes ≤ 1048576 → walked words (program_nodes p) ≡ expanded words.lines p
  program-walked p m h few =
      let v = p.version in
      let t = head_tokens p in
      let qubits = numbers_nodes 5 2 p.qubits in
      let buffers = numbers_nodes (6 + length p.qubits) (2 + length p.qubits) p.buffers in
      let rest = rest_nodes t (head_nodes p) p in
      let l = length-numbers 5 2 p.qubits in
      let k = length-numbers (6 + length p.qubits) (2 + length p.qubits) p.buffers in
      let head : 2 + length qubits + length buffers ≡ head_nodes p = omega (arith, l, k) in
      let behind : ℕ → Programs → Outcome Programs = λ n q. blocks_walked words rest n p.ranks 0 0 0 (draft q 0) >>= λ w. tapes_walked words (drop w.used rest) w.draft.programs in
      ap (λ w. ranks_walk words w p.ranks (qubits ++ (buffers ++ rest))) (version-is v)
      ∙ head-walked v p.ranks qubits buffers rest m.some_ranks m.few_ranks (l ∙ m.qubits.count) (k ∙ m.buffers.count)
      (sizes-are 16 5 2 p.qubits m.qubits.each) (sizes-are 8 (6 + length p.qubits) (2 + length p.qubits) p.buffers m.buffers.each)
      ∙ ap (λ ns. behind (2 + length qubits + length buffers) (sized_programs v p.ranks ns (numbers_in buffers))) (numbers-are 5 2 p.qubits)
      ∙ ap (λ ns. behind (2 + length qubits + length buffers) (sized_programs v p.ranks p.qubits ns)) (numbers-are (6 + length p.qubits) (2 + length p.qubits) p.buffers)
      ∙ ap (λ n. behind n (sized p)) head
      ∙ rest-walked p t (head_nodes p) m (says-rest p h) few

-- the walk over the nodes of a tree that the tokens of a text spell is its expansion
pub tree-expanded : (text : List ℕ) (tokens : List Token) (p : Program) → length text ≤ 1048576 → LieIn text tokens → Spells (signs_of text tokens) p
    → tree_walked text tokens p ≡ expanded (lines_of tokens) p
tree-expanded text tokens p small lie spells =
    let words = words_in text tokens (verbs_of text tokens) in
    program-walked words p spells.may (subst (λ (xs : List Sign). Says words 0 xs) (sym spells.spelled) (says-all text tokens))
    (omega (arith, small, outcomes-fit text tokens p lie spells.spelled))
