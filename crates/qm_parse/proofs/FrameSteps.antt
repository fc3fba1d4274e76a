-- The goals of a program's frame: what stands for them, and what follows their first tokens
use Rattle.std.proofs.Common.{◌≡◌, ℕ, ◌+◌, ◌-◌, ◌<◌, ◌≤◌, Bool, true, false, List, [], ◌∷◌, ◌++◌, length, refl, sym, ap, ◌∙◌, subst, append_assoc, arith, if◌then◌else◌}
use Rattle.std.specs.Prelude.{All}
use Rattle.qm_limits.specs.declared.TheConstants.{SLOTS, MOST_HALVES}
use Rattle.std.proofs.lemmas.List.Elements.{All-cons, All-head, All-tail}
use Rattle.qm_parse.specs.declared.goals.Fixed.TheVariants as fixed
use Rattle.qm_parse.specs.declared.goals.Goal.{Goal}
use Rattle.qm_parse.specs.declared.goals.Goal.TheVariants as goal
use Rattle.qm_parse.specs.declared.words.Keyword.TheVariants as keyword
use Rattle.qm_parse.specs.declared.words.Version.{Version}
use Rattle.qm_parse.specs.declared.words.Version.TheVariants as version
use Rattle.qm_parse.specs.Words.{size_count, version_number}
use Rattle.qm_parse.specs.Signs.{Sign, Number, Key}
use Rattle.qm_parse.specs.Looks.{look_at}
use Rattle.qm_parse.specs.Moves.{version_goals, number_goals}
use Rattle.qm_parse.specs.Trees.{Body, Blocks, ForAll, ForEach, TapeLine, Program, BodyMay, BlocksMay, SizesMay, ProgramMay}
use Rattle.qm_parse.specs.Spelling.{body_signs, each_signs, blocks_signs, tapes_signs, numbers_signs, sizes_signs}
use Rattle.qm_parse.specs.Verdicts.{is_all}
use Rattle.qm_parse.specs.declared.tree.What.TheVariants as what
use Rattle.qm_parse.proofs.Behind.{Spot, noted, taken, behind_rest}
use Rattle.qm_parse.proofs.Parts.{Parts, PartsMay, part_signs, NoHead, is_tape_sign, Back, Forth}
use Rattle.qm_parse.proofs.ExprSteps.{absurd-head}

-- ---- the number of the version, and all that follows it
pub version-same : (v w : Version) → version_number v ≡ version_number w → v ≡ w
version-same version.One version.One e = refl
version-same version.Two version.Two e = refl
version-same version.One version.Two e = absurd (omega (arith, e))
version-same version.Two version.One e = absurd (omega (arith, e))

pub back-version : (v : Version) (s : Spot) (q : Parts (version_goals v)) → PartsMay (version_goals v) q
    → Back goal.Version (Number (version_number v) ∷ []) (version_goals v) q s (noted what.Num (version_number v) s)
back-version v s (u, (p, w)) h = record {
  part = p;
  may = h.1.0.1;
  spelled = λ xs. ap (λ (v : Version). Number (version_number v) ∷ Key keyword.Ranks ∷ Number p.ranks ∷ (sizes_signs p ++ xs)) h.1.0.0;
  written = ap (λ (v : Version). behind_rest p (taken (noted what.Num (version_number v) s))) h.1.0.0;
}

pub forth-version : (v : Version) (p : Program) (xs ts : List Sign) → ProgramMay p → NoHead is_tape_sign xs → part_signs goal.Version p ++ xs ≡ Number (version_number v) ∷ ts → Forth (version_goals v) xs ts
forth-version v p xs ts m h e =
    let same : version_number p.version ≡ version_number v = cc in
    let f : Key keyword.Ranks ∷ Number p.ranks ∷ (sizes_signs p ++ xs) ≡ ts = cc in record {
      parts = (tt, (p, tt));
      may = (tt, ((version-same p.version v same, m), tt));
      ends = (tt, (h, tt));
      spelled = f;
    }

-- ---- numbers
abbrev Fits : ℕ → ℕ → Type 0
Fits end n = (1 ≤ n) × (n < end)

pub back-number : (s : Spot) (left end : ℕ) (q : Parts (number_goals left end)) → PartsMay (number_goals left end) q → Back (goal.Numbers (left + 1) end) [] (number_goals left end) q s s
back-number s left end (n, (ns, w)) h = record {
  part = n ∷ ns;
  may = (omega (arith, h.1.0.0), All-cons (Fits end) n ns h.0 h.1.0.1);
  spelled = λ xs. refl;
  written = refl;
}

pub forth-number : (left end : ℕ) (p : List ℕ) (xs : List Sign) → length p ≡ left + 1 → All (Fits end) p → Forth (number_goals left end) xs (numbers_signs p ++ xs)
forth-number left end [] xs l m = absurd (omega (arith, l))
forth-number left end (n ∷ ns) xs l m = record {
  parts = (n, (ns, tt));
  may = (All-head (Fits end) n ns m, ((omega (arith, l), All-tail (Fits end) n ns m), tt));
  ends = (tt, (tt, tt));
  spelled = refl;
}

-- ---- the number of ranks, and all that follows it
abbrev pub rank_goals : Version → ℕ → List Goal
rank_goals v n =
    goal.Fixed fixed.Qubits ∷ goal.Numbers (size_count v n) (SLOTS + 1) ∷ goal.Fixed fixed.Buffer ∷ goal.Numbers (size_count v n) (MOST_HALVES + 1)
    ∷ goal.Blocks n ∷ goal.Tapes n ∷ []

-- sizes up to the largest are those below the number behind it
sizes-may : (count most : ℕ) (ns : List ℕ) → (length ns ≡ count) × All (Fits (most + 1)) ns → SizesMay count most ns
sizes-may count most ns h = record { count = h.0; each = λ i d small. let f = h.1 i d small in (f.0, omega (arith, f.1)) }

may-sizes : (count most : ℕ) (ns : List ℕ) → SizesMay count most ns → (length ns ≡ count) × All (Fits (most + 1)) ns
may-sizes count most ns h = (h.count, λ i d small. let f = h.each i d small in (f.0, omega (arith, f.1)))

sizes-before : (a b c d xs : List Sign) (k : Sign) → (a ++ k ∷ (b ++ (c ++ d))) ++ xs ≡ a ++ k ∷ (b ++ (c ++ (d ++ xs)))
sizes-before a b c d xs k =
    append_assoc a (k ∷ (b ++ (c ++ d))) xs
    ∙ ap (λ z. a ++ k ∷ z) (append_assoc b (c ++ d) xs ∙ ap (λ z. b ++ z) (append_assoc c d xs))

pub back-ranks : (v : Version) (n : ℕ) (s : Spot) (q : Parts (rank_goals v n)) → 1 ≤ n → n ≤ 16 → PartsMay (rank_goals v n) q → Back (goal.Ranks v) (Number n ∷ []) (rank_goals v n) q s (noted what.Num n s)
back-ranks v n s (u, (qubits, (u2, (buffers, (blocks, (tapes, w)))))) some few h = record {
  part = record { version = v; ranks = n; qubits = qubits; buffers = buffers; blocks = blocks; tapes = tapes };
  may = (
    refl,
    record {
      some_ranks = some;
      few_ranks = few;
      qubits = sizes-may (size_count v n) SLOTS qubits h.1.0;
      buffers = sizes-may (size_count v n) MOST_HALVES buffers h.1.1.1.0;
      blocks = h.1.1.1.1.0;
      tapes = h.1.1.1.1.1.0;
    },
  );
  spelled = λ xs. ap (λ z. Number n ∷ Key keyword.Qubits ∷ z) (sizes-before (numbers_signs qubits) (numbers_signs buffers) (blocks_signs blocks) (tapes_signs tapes) xs (Key keyword.Buffer));
  written = refl;
}

pub forth-ranks : (v : Version) (n : ℕ) (p : Program) (xs ts : List Sign) → (p.version ≡ v) × ProgramMay p → NoHead is_tape_sign xs → part_signs (goal.Ranks v) p ++ xs ≡ Number n ∷ ts → Forth (rank_goals v n) xs ts
forth-ranks v n p xs ts m h e =
    let same : p.ranks ≡ n = cc in
    let f : sizes_signs p ++ xs ≡ ts = cc in
    let count : size_count p.version p.ranks ≡ size_count v n = ap (λ (w : Version). size_count w p.ranks) m.0 ∙ ap (size_count v) same in record {
      parts = (tt, (p.qubits, (tt, (p.buffers, (p.blocks, (p.tapes, tt))))));
      may = (
        tt,
        (
          subst (λ (k : ℕ). (length p.qubits ≡ k) × All (Fits (SLOTS + 1)) p.qubits) count (may-sizes (size_count p.version p.ranks) SLOTS p.qubits m.1.qubits),
          (
            tt,
            (
              subst (λ (k : ℕ). (length p.buffers ≡ k) × All (Fits (MOST_HALVES + 1)) p.buffers) count (may-sizes (size_count p.version p.ranks) MOST_HALVES p.buffers m.1.buffers),
              (subst (λ (n : ℕ). BlocksMay n p.blocks) same m.1.blocks, (subst (λ (n : ℕ). All (λ t. t.rank < n) p.tapes) same m.1.tapes, tt)),
            ),
          ),
        ),
      );
      ends = (tt, (tt, (tt, (tt, (tt, (h, tt))))));
      spelled = ap (λ z. Key keyword.Qubits ∷ z) (sym (sizes-before (numbers_signs p.qubits) (numbers_signs p.buffers) (blocks_signs p.blocks) (tapes_signs p.tapes) xs (Key keyword.Buffer))) ∙ f;
    }

-- ---- one block for all ranks
abbrev pub all_goals : ℕ → List Goal
all_goals base = goal.Body ∷ goal.Close base ∷ goal.Fixed fixed.End ∷ []

pub back-all : (ranks : ℕ) (s : Spot) (q : Parts (all_goals (length s.nodes))) → PartsMay (all_goals (length s.nodes)) q
    → Back (goal.Blocks ranks) (Key keyword.All ∷ []) (all_goals (length s.nodes)) q s (noted what.All 0 s)
back-all ranks s (b, (u, (u2, w))) h = record {
  part = ForAll b;
  may = h.0;
  spelled = λ xs. ap (λ z. Key keyword.All ∷ z) (append_assoc (body_signs b) (Key keyword.End ∷ []) xs);
  written = refl;
}

pub forth-all : (ranks base : ℕ) (p : Blocks) (xs ts : List Sign) → BlocksMay ranks p → 1 ≤ ranks → blocks_signs p ++ xs ≡ Key keyword.All ∷ ts → Forth (all_goals base) xs ts
forth-all ranks base (ForAll b) xs ts m some e = record {
  parts = (b, (tt, (tt, tt)));
  may = (m, (tt, (tt, tt)));
  ends = (refl, (tt, (tt, tt)));
  spelled = let f : (body_signs b ++ Key keyword.End ∷ []) ++ xs ≡ ts = cc in sym (append_assoc (body_signs b) (Key keyword.End ∷ []) xs) ∙ f;
}
forth-all ranks base (ForEach []) xs ts m some e = absurd (omega (arith, m.0))
forth-all ranks base (ForEach (b ∷ bs)) xs ts m some e = cc

-- ---- a block for each rank
pub back-blocks : (ranks : ℕ) (s : Spot) (q : Parts (goal.Each 0 ranks ∷ [])) → PartsMay (goal.Each 0 ranks ∷ []) q → Back (goal.Blocks ranks) [] (goal.Each 0 ranks ∷ []) q s s
back-blocks ranks s (bs, w) h = record { part = ForEach bs; may = (omega (arith, h.0.0), h.0.1); spelled = λ xs. refl; written = refl }

pub forth-blocks : (ranks : ℕ) (p : Blocks) (xs : List Sign) → BlocksMay ranks p → is_all (look_at (blocks_signs p ++ xs)) ≡ false → Forth (goal.Each 0 ranks ∷ []) xs (blocks_signs p ++ xs)
forth-blocks ranks (ForAll b) xs m e = cc
forth-blocks ranks (ForEach bs) xs m e = record { parts = (bs, tt); may = ((omega (arith, m.0), m.1), tt); ends = (tt, tt); spelled = refl }

abbrev pub block_goals : ℕ → ℕ → ℕ → List Goal
block_goals next ranks base = goal.Number next (next + 1) false ∷ goal.Body ∷ goal.Close base ∷ goal.Fixed fixed.End ∷ goal.Each (next + 1) ranks ∷ []

pub back-each : (next ranks : ℕ) (s : Spot) (q : Parts (block_goals next ranks (length s.nodes))) → next < ranks → PartsMay (block_goals next ranks (length s.nodes)) q
    → Back (goal.Each next ranks) (Key keyword.Rank ∷ []) (block_goals next ranks (length s.nodes)) q s (noted what.Block 0 s)
back-each next ranks s (n, (b, (u, (u2, (bs, w))))) l h =
    let same : next ≡ n = omega (arith, h.0.0, h.0.1) in record {
      part = b ∷ bs;
      may = (omega (arith, h.1.1.1.1.0.0), All-cons BodyMay b bs h.1.0 h.1.1.1.1.0.1);
      spelled = λ xs. ap (λ z. Key keyword.Rank ∷ Number next ∷ z) (append_assoc (body_signs b) (Key keyword.End ∷ each_signs (next + 1) bs) xs)
          ∙ ap (λ (m : ℕ). Key keyword.Rank ∷ Number m ∷ (body_signs b ++ Key keyword.End ∷ (each_signs (next + 1) bs ++ xs))) same;
      written = refl;
    }

pub forth-each : (next ranks base : ℕ) (p : List Body) (t : Sign) (xs ts : List Sign) → next < ranks → length p ≡ ranks - next → All BodyMay p → each_signs next p ++ xs ≡ t ∷ ts → Forth (block_goals next ranks base) xs ts
forth-each next ranks base [] t xs ts l k m e = absurd (omega (arith, k))
forth-each next ranks base (b ∷ bs) t xs ts l k m e = record {
  parts = (next, (b, (tt, (tt, (bs, tt)))));
  may = let low : next ≤ next = omega arith in ((low, omega arith), (All-head BodyMay b bs m, (tt, (tt, ((omega (arith, k), All-tail BodyMay b bs m), tt)))));
  ends = (tt, (refl, (tt, (tt, (tt, tt)))));
  spelled = let f : Number next ∷ ((body_signs b ++ Key keyword.End ∷ each_signs (next + 1) bs) ++ xs) ≡ ts = cc in
      ap (λ z. Number next ∷ z) (sym (append_assoc (body_signs b) (Key keyword.End ∷ each_signs (next + 1) bs) xs)) ∙ f;
}

-- ---- tape lines
abbrev pub tape_goals : ℕ → ℕ → List Goal
tape_goals ranks base = goal.Number 0 ranks true ∷ goal.Outcomes ∷ goal.Close base ∷ goal.Tapes ranks ∷ []

abbrev pub tape_key : Bool → Sign
tape_key own = Key (if own then keyword.Own else keyword.Protocol)

pub back-tape : (own : Bool) (ranks : ℕ) (s : Spot) (q : Parts (tape_goals ranks (length s.nodes))) → PartsMay (tape_goals ranks (length s.nodes)) q
    → Back (goal.Tapes ranks) (tape_key own ∷ []) (tape_goals ranks (length s.nodes)) q s (noted (if own then what.Own else what.Protocol) 0 s)
back-tape own ranks s (rank, (outcomes, (u, (ts, w)))) h = record {
  part = record { own = own; rank = rank; outcomes = outcomes } ∷ ts;
  may = All-cons (λ t. t.rank < ranks) (record { own = own; rank = rank; outcomes = outcomes }) ts h.0.1 h.1.1.1.0;
  spelled = λ xs. refl;
  written = refl;
}

pub forth-tape : (own : Bool) (ranks base : ℕ) (p : List TapeLine) (t : Sign) (xs ts : List Sign) → All (λ l. l.rank < ranks) p → NoHead is_tape_sign xs → is_tape_sign t ≡ true → tapes_signs p ++ xs ≡ t ∷ ts
    → Forth (tape_goals ranks base) xs ts
forth-tape own ranks base [] t xs ts m h k e = absurd-head is_tape_sign xs ts t h e k
forth-tape own ranks base (l ∷ ls) t xs ts m h k e = record {
  parts = (l.rank, (l.outcomes, (tt, (ls, tt))));
  may = let low : 0 ≤ l.rank = omega arith in ((low, All-head (λ l. l.rank < ranks) l ls m), (tt, (tt, (All-tail (λ l. l.rank < ranks) l ls m, tt))));
  ends = (tt, (tt, (tt, (h, tt))));
  spelled = cc;
}
