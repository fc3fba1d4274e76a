-- Programs that a text reads as are in their ranges
use Rattle.std.proofs.Common.{◌≡◌, ◌∙◌, ℕ, zero, suc, ◌+◌, ◌<◌, ◌≤◌, Bool, true, false, nat_lt, ltb-true, List, [], ◌∷◌, ◌++◌, length, get_or, set, Ok, Err, refl, subst, arith, length-append, length-set, if◌then◌else◌}
use Rattle.std.specs.Prelude.{All, sum_by}
use Rattle.std.proofs.lemmas.Bool.{and_parts}
use Rattle.std.proofs.lemmas.List.Sums.{sum_by-cons}
use Rattle.std.proofs.lemmas.List.Elements.{All-nil, All-cons, All-head, All-tail, All-push, All-set}
use Rattle.qm_instr.specs.declared.Instr.{Instr}
use Rattle.qm_instr.specs.Operands.{slots_of, bits_of, HasOperands}
use Rattle.qm_instr.specs.Programs.{Programs, RankProgram, idle_rank, rank_of, with_instruction, instruction_total, IsInRange}
use Rattle.qm_lex.specs.declared.tokens.Token.{Token}
use Rattle.qm_lex.proofs.SpanLemmas.{tokens_of-LieIn}
use Rattle.qm_parse.specs.declared.words.Version.{Version}
use Rattle.qm_parse.specs.declared.words.Version.TheVariants as version
use Rattle.qm_parse.specs.Words.{version_number}
use Rattle.qm_parse.specs.Nodes.{head_tokens}
use Rattle.qm_parse.specs.Trees.{TapeLine, Program, ProgramMay}
use Rattle.qm_expand.specs.Steps.{Outcome, ◌>>=◌}
use Rattle.qm_expand.specs.Drafts.{Draft, draft, all_below, has_operands, with_outcomes}
use Rattle.qm_expand.specs.Expansion.{blocks_expanded, with_tapes, by_rank, sized}
use Rattle.qm_expand.specs.Reading.{Reads, MadeOf, lines_of}
use Rattle.qm_expand.proofs.Holding.{Holds, holds-blocks}
use Rattle.qm_expand.proofs.SizeLemmas.{sum_by-sized, All-sized, All-by_rank}
use Rattle.qm_expand.proofs.TapeLemmas.{tape_total, Keeps, keeps-blocks, sized-empty, outcome_total, outcomes-fit}

-- ---- sums over lists of which one element changes
sum_by-more : {X : Type 0} (f : X → ℕ) (xs : List X) (i : ℕ) (x d : X) (k : ℕ) → f x ≤ f (get_or xs i d) + k → sum_by f (set xs i x) ≤ sum_by f xs + k
sum_by-more f [] i x d k h = omega arith
sum_by-more f (y ∷ ys) zero x d k h = omega (arith, h, sum_by-cons f x ys, sum_by-cons f y ys)
sum_by-more f (y ∷ ys) (suc i) x d k h =
    let rest = sum_by-more f ys i x d k h in omega (arith, rest, sum_by-cons f y (set ys i x), sum_by-cons f y ys)

each_below : {X : Type 0} (f : X → ℕ) (xs : List X) (n : ℕ) → sum_by f xs ≤ n → All (λ x. f x ≤ n) xs
each_below f [] n h = All-nil (λ x. f x ≤ n)
each_below f (x ∷ xs) n h =
    let all = sum_by-cons f x xs in
    All-cons (λ x. f x ≤ n) x xs (omega (arith, all, h)) (each_below f xs n (omega (arith, all, h)))

-- ---- ranks with sizes and operands in their ranges
record IsFit (x : RankProgram) : Type 0 where
  some_qubits : 1 ≤ x.qubits
  most_qubits : x.qubits ≤ 16
  some_buffer : 1 ≤ x.buffer
  most_buffer : x.buffer ≤ 8
  operands : All (HasOperands x.qubits) x.instructions

record AreFit (p : Programs) : Type 0 where
  least : 1 ≤ p.version
  last : p.version ≤ 2
  each : All IsFit p.ranks
  few : instruction_total p ≤ 100000

idle_fit : IsFit idle_rank
idle_fit = record { some_qubits = omega arith; most_qubits = omega arith; some_buffer = omega arith; most_buffer = omega arith; operands = All-nil (HasOperands 1) }

fit_at : (xs : List RankProgram) (r : ℕ) → All IsFit xs → IsFit (get_or xs r idle_rank)
fit_at [] r h = idle_fit
fit_at (x ∷ xs) zero h = All-head IsFit x xs h
fit_at (x ∷ xs) (suc r) h = fit_at xs r (All-tail IsFit x xs h)

below-all : (most : ℕ) (ns : List ℕ) → all_below most ns ≡ true → All (λ n. n < most) ns
below-all most [] e = All-nil (λ n. n < most)
below-all most (n ∷ ns) e =
    let both = and_parts (nat_lt n most) (all_below most ns) e in
    All-cons (λ n. n < most) n ns (ltb-true n most both.0) (below-all most ns both.1)

operands_so : (qubits : ℕ) (i : Instr) → has_operands qubits i ≡ true → HasOperands qubits i
operands_so qubits i e =
    let both = and_parts (all_below qubits (slots_of i)) (all_below 32 (bits_of i)) e in
    record { slots = below-all qubits (slots_of i) both.0; bits = below-all 32 (bits_of i) both.1 }

push_fit : (p : Programs) (rank : ℕ) (i : Instr) → AreFit p → has_operands (rank_of p rank).qubits i ≡ true → nat_lt (instruction_total p) 100000 ≡ true → AreFit (with_instruction p rank i)
push_fit p rank i h operands room =
    let r = rank_of p rank in
    let old = fit_at p.ranks rank h.each in
    let x : RankProgram = record r { instructions = r.instructions ++ i ∷ [] } in
    let size : RankProgram → ℕ = λ y. length y.instructions in
    let long = length-append r.instructions (i ∷ []) in
    let more : sum_by size (set p.ranks rank x) ≤ sum_by size p.ranks + 1 = sum_by-more size p.ranks rank x idle_rank 1 (omega (arith, long)) in
    let less : instruction_total p < 100000 = ltb-true (instruction_total p) 100000 room in
    let fit : IsFit x = record {
      some_qubits = old.some_qubits;
      most_qubits = old.most_qubits;
      some_buffer = old.some_buffer;
      most_buffer = old.most_buffer;
      operands = All-push (HasOperands r.qubits) r.instructions i old.operands (operands_so r.qubits i operands);
    } in
    record { least = h.least; last = h.last; each = All-set IsFit p.ranks rank x fit h.each; few = omega (arith, more, less) }

-- ---- tapes
outcomes_fit : (own : Bool) (rank : ℕ) (ms : List Bool) (p : Programs) → AreFit p → AreFit (with_outcomes own rank ms p)
outcomes_fit true rank ms p h =
    let r = rank_of p rank in
    let old = fit_at p.ranks rank h.each in
    let x : RankProgram = record r { own = r.own ++ ms } in
    let size : RankProgram → ℕ = λ y. length y.instructions in
    let same : sum_by size (set p.ranks rank x) ≤ sum_by size p.ranks + 0 = sum_by-more size p.ranks rank x idle_rank 0 (omega arith) in
    let fit : IsFit x = record { some_qubits = old.some_qubits; most_qubits = old.most_qubits; some_buffer = old.some_buffer; most_buffer = old.most_buffer; operands = old.operands } in
    record { least = h.least; last = h.last; each = All-set IsFit p.ranks rank x fit h.each; few = omega (arith, same, h.few) }
outcomes_fit false rank ms p h =
    let r = rank_of p rank in
    let old = fit_at p.ranks rank h.each in
    let x : RankProgram = record r { protocol = r.protocol ++ ms } in
    let size : RankProgram → ℕ = λ y. length y.instructions in
    let same : sum_by size (set p.ranks rank x) ≤ sum_by size p.ranks + 0 = sum_by-more size p.ranks rank x idle_rank 0 (omega arith) in
    let fit : IsFit x = record { some_qubits = old.some_qubits; most_qubits = old.most_qubits; some_buffer = old.some_buffer; most_buffer = old.most_buffer; operands = old.operands } in
    record { least = h.least; last = h.last; each = All-set IsFit p.ranks rank x fit h.each; few = omega (arith, same, h.few) }

abbrev tape_size : RankProgram → ℕ
tape_size r = length r.own + length r.protocol

outcomes_few : (own : Bool) (rank : ℕ) (ms : List Bool) (p : Programs) → tape_total (with_outcomes own rank ms p) ≤ tape_total p + length ms
outcomes_few true rank ms p =
    let r = rank_of p rank in
    let x : RankProgram = record r { own = r.own ++ ms } in
    sum_by-more tape_size p.ranks rank x idle_rank (length ms) (omega (arith, length-append r.own ms))
outcomes_few false rank ms p =
    let r = rank_of p rank in
    let x : RankProgram = record r { protocol = r.protocol ++ ms } in
    sum_by-more tape_size p.ranks rank x idle_rank (length ms) (omega (arith, length-append r.protocol ms))

outcomes_count : (own : Bool) (rank : ℕ) (ms : List Bool) (p : Programs) → length (with_outcomes own rank ms p).ranks ≡ length p.ranks
outcomes_count own rank ms p = let r = rank_of p rank in length-set p.ranks rank (if own then record r { own = r.own ++ ms } else record r { protocol = r.protocol ++ ms })

-- what the tape lines leave of programs
record IsTaped (p q : Programs) (more : ℕ) : Type 0 where
  fit : AreFit q
  count : length q.ranks ≡ length p.ranks
  few : tape_total q ≤ tape_total p + more

taped : (ts : List TapeLine) (p : Programs) → AreFit p → IsTaped p (with_tapes ts p) (outcome_total ts)
taped [] p h = record { fit = h; count = refl; few = omega arith }
taped (t ∷ ts) p h =
    let q = with_outcomes t.own t.rank t.outcomes p in
    let rest = taped ts q (outcomes_fit t.own t.rank t.outcomes p h) in
    let one = outcomes_few t.own t.rank t.outcomes p in
    let all = sum_by-cons (λ (l : TapeLine). length l.outcomes) t ts in
    record {
      fit = rest.fit;
      count = rest.count ∙ outcomes_count t.own t.rank t.outcomes p;
      few = omega (arith, rest.few, one, all);
    }

-- ---- the programs of a tree
version-range : (v : Version) → (1 ≤ version_number v) × (version_number v ≤ 2)
version-range version.One = (omega arith, omega arith)
version-range version.Two = (omega arith, omega arith)

sized_fit : (m : Program) → ProgramMay m → AreFit (sized m)
sized_fit m may =
    let none = sum_by-sized (λ (y : RankProgram). length y.instructions) (λ q b. refl) (by_rank m.version m.ranks m.qubits) (by_rank m.version m.ranks m.buffers) in
    let v = version-range m.version in
    record {
      least = v.0;
      last = v.1;
      each = All-sized IsFit (λ q. (1 ≤ q) × (q ≤ 16)) (λ b. (1 ≤ b) × (b ≤ 8))
          (λ q b h k. record { some_qubits = h.0; most_qubits = h.1; some_buffer = k.0; most_buffer = k.1; operands = All-nil (HasOperands q) })
          (by_rank m.version m.ranks m.qubits) (by_rank m.version m.ranks m.buffers)
          (All-by_rank m.version m.ranks (λ q. (1 ≤ q) × (q ≤ 16)) m.qubits may.some_ranks may.qubits.count may.qubits.each)
          (All-by_rank m.version m.ranks (λ b. (1 ≤ b) × (b ≤ 8)) m.buffers may.some_ranks may.buffers.count may.buffers.each);
      few = omega (arith, none);
    }

in_range : (p : Programs) (ranks : ℕ) → AreFit p → length p.ranks ≡ ranks → 1 ≤ ranks → ranks ≤ 16 → tape_total p ≤ 1048576 → IsInRange p
in_range p ranks h count some most short =
    let tapes = each_below tape_size p.ranks 1048576 short in
    record {
      least_version = h.least;
      last_version = h.last;
      some_ranks = omega (arith, count, some);
      most_ranks = omega (arith, count, most);
      each = λ k d known.
          let fit = h.each k d known in
          let few = tapes k d known in
          record {
            some_qubits = fit.some_qubits;
            most_qubits = fit.most_qubits;
            some_buffer = fit.some_buffer;
            most_buffer = fit.most_buffer;
            operands = fit.operands;
            own = omega (arith, few);
            protocol = omega (arith, few);
          };
      few = h.few;
    }

module _ (text : List ℕ) (small : length text ≤ 1048576) (m : Program) (may : ProgramMay m) (fits : outcome_total m.tapes ≤ length text) (p : Programs) where
  of_draft : (o : Outcome Draft) → Keeps (draft (sized m) 0) o → Holds AreFit o → (o >>= λ d. Ok (with_tapes m.tapes d.programs)) ≡ Ok p → IsInRange p
  of_draft (Err f) kept fit e = cc
  of_draft (Ok d) kept fit e =
      let same : with_tapes m.tapes d.programs ≡ p = cc in
      let t = taped m.tapes d.programs fit in
      let start = sized-empty m may in
      let total = kept.1 in
      let none = start.1 in
      subst IsInRange same
      (in_range (with_tapes m.tapes d.programs) m.ranks t.fit (t.count ∙ kept.0 ∙ start.0) may.some_ranks may.few_ranks (omega (arith, t.few, total, none, fits, small)))

pub read_in_range : (text : List ℕ) (p : Programs) → length text ≤ 1048576 → Reads text (Ok p) → IsInRange p
read_in_range text p small reads =
    let tokens : List Token = reads.0 in
    let made : MadeOf text (Ok p) tokens = reads.2 in
    let m = made.program in
    let lines = lines_of tokens in
    let d = draft (sized m) 0 in
    of_draft text small m made.spelled.may (outcomes-fit text tokens m (tokens_of-LieIn text tokens reads.1) made.spelled.spelled) p
    (blocks_expanded lines (head_tokens m) m.ranks m.blocks d) (keeps-blocks lines (head_tokens m) m.ranks m.blocks d)
    (holds-blocks AreFit push_fit lines (head_tokens m) m.ranks m.blocks d (sized_fit m made.spelled.may)) made.expands
