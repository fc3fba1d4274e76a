-- The tapes of made programs, and the programs with them
use Rattle.std.proofs.Common.{◌≡◌, ℕ, zero, suc, ◌+◌, Bool, true, false, List, [], ◌∷◌, ◌++◌, length, get_or, set, map, sum_by, refl, sym, ap, ◌∙◌, append-nil}
use Rattle.std.proofs.lemmas.List.{set-get_or, length-map}
use Rattle.std.proofs.lemmas.List.Sums.{sum_by-cons}
use Rattle.qm_instr.specs.declared.Instr.{Instr}
use Rattle.qm_instr.specs.Programs.{RankProgram, Programs, idle_rank, rank_of, with_rank}
use Rattle.qm_parse.specs.Trees.{TapeLine}
use Rattle.qm_expand.specs.Drafts.{with_outcomes}
use Rattle.qm_expand.specs.Expansion.{with_tapes}
use Rattle.qm_seed.specs.Seeds.{Words, words_after}
use Rattle.qm_gen.specs.Outcomes.{words_past, outcomes}
use Rattle.qm_gen.specs.Made.{Tape}
use Rattle.qm_gen.proofs.Deeds.{tape_lines_in, drawn_tapes, Part}
use Rattle.qm_gen.proofs.Expanded.{program_of, repeated-none}
use Rattle.qm_gen.proofs.RanksExpanded.{rows}
use Rattle.qm_gen.proofs.Sound.{part_at}

-- ---- tapes
pub length-outcomes : (n : ℕ) (w : Words) → length (outcomes n w) ≡ n
length-outcomes zero w = refl
length-outcomes (suc n) w = ap suc (length-outcomes n (words_after w))

-- all tapes at the ends of those of their ranks, also those without outcomes
abbrev pub all_tapes : List Tape → Words → Programs → Programs
all_tapes [] w p = p
all_tapes (t ∷ ts) w p = all_tapes ts (words_past t.len w) (with_outcomes t.own t.rank (outcomes t.len w) p)

no_outcomes : (own : Bool) (rank : ℕ) (p : Programs) → with_outcomes own rank [] p ≡ p
no_outcomes true rank p =
    ap (λ (ms : List Bool). with_rank p rank (record (rank_of p rank) { own = ms })) (append-nil (rank_of p rank).own)
    ∙ ap (λ (xs : List RankProgram). record p { ranks = xs }) (set-get_or p.ranks rank idle_rank)
no_outcomes false rank p =
    ap (λ (ms : List Bool). with_rank p rank (record (rank_of p rank) { protocol = ms })) (append-nil (rank_of p rank).protocol)
    ∙ ap (λ (xs : List RankProgram). record p { ranks = xs }) (set-get_or p.ranks rank idle_rank)

one_tape : (own : Bool) (rank : ℕ) (ms : List Bool) (more : List TapeLine) (p : Programs) → with_tapes (tape_lines_in own rank ms ++ more) p ≡ with_tapes more (with_outcomes own rank ms p)
one_tape own rank [] more p = ap (with_tapes more) (sym (no_outcomes own rank p))
one_tape own rank (m ∷ ms) more p = refl

pub tapes-are : (ts : List Tape) (w : Words) (p : Programs) → with_tapes (drawn_tapes ts w) p ≡ all_tapes ts w p
tapes-are [] w p = refl
tapes-are (t ∷ ts) w p =
    one_tape t.own t.rank (outcomes t.len w) (drawn_tapes ts (words_past t.len w)) p ∙ tapes-are ts (words_past t.len w) (with_outcomes t.own t.rank (outcomes t.len w) p)

-- ---- tapes leave the instructions as they are
abbrev pub all_instructions : List RankProgram → List (List Instr)
all_instructions xs = map (λ x. x.instructions) xs

set-instructions : (xs : List RankProgram) (r : ℕ) (y : RankProgram) → y.instructions ≡ (get_or xs r idle_rank).instructions → all_instructions (set xs r y) ≡ all_instructions xs
set-instructions [] r y same = refl
set-instructions (x ∷ xs) zero y same = ap (λ is. is ∷ all_instructions xs) same
set-instructions (x ∷ xs) (suc r) y same = ap (λ iss. x.instructions ∷ iss) (set-instructions xs r y same)

tape-instructions : (own : Bool) (rank : ℕ) (ms : List Bool) (p : Programs) → all_instructions (with_outcomes own rank ms p).ranks ≡ all_instructions p.ranks
tape-instructions true rank ms p = set-instructions p.ranks rank (record (rank_of p rank) { own = (rank_of p rank).own ++ ms }) refl
tape-instructions false rank ms p = set-instructions p.ranks rank (record (rank_of p rank) { protocol = (rank_of p rank).protocol ++ ms }) refl

tapes-instructions : (ts : List Tape) (w : Words) (p : Programs) → all_instructions (all_tapes ts w p).ranks ≡ all_instructions p.ranks
tapes-instructions [] w p = refl
tapes-instructions (t ∷ ts) w p = tapes-instructions ts (words_past t.len w) (with_outcomes t.own t.rank (outcomes t.len w) p) ∙ tape-instructions t.own t.rank (outcomes t.len w) p

tapes-version : (ts : List Tape) (w : Words) (p : Programs) → (all_tapes ts w p).version ≡ p.version
tapes-version [] w p = refl
tapes-version (t ∷ ts) w p = tapes-version ts (words_past t.len w) (with_outcomes t.own t.rank (outcomes t.len w) p)

-- ---- the programs of parts, with tapes
abbrev pub programs_with : ℕ → List Part → List Tape → Words → Programs
programs_with size ps ts w = all_tapes ts w (record { version = 1; ranks = rows size ps })

pub programs-version : (size : ℕ) (ps : List Part) (ts : List Tape) (w : Words) → (programs_with size ps ts w).version ≡ 1
programs-version size ps ts w = tapes-version ts w (record { version = 1; ranks = rows size ps })

rows-instructions : (size : ℕ) (ps : List Part) → all_instructions (rows size ps) ≡ map (program_of size) ps
rows-instructions size [] = refl
rows-instructions size (p ∷ ps) = ap (λ iss. program_of size p ∷ iss) (rows-instructions size ps)

pub programs-instructions : (size : ℕ) (ps : List Part) (ts : List Tape) (w : Words) → all_instructions (programs_with size ps ts w).ranks ≡ map (program_of size) ps
programs-instructions size ps ts w = tapes-instructions ts w (record { version = 1; ranks = rows size ps }) ∙ rows-instructions size ps

pub programs-ranks : (size : ℕ) (ps : List Part) (ts : List Tape) (w : Words) → length (programs_with size ps ts w).ranks ≡ length ps
programs-ranks size ps ts w =
    sym (length-map (programs_with size ps ts w).ranks (λ x. x.instructions)) ∙ ap length (programs-instructions size ps ts w) ∙ length-map ps (program_of size)

instructions-at : (xs : List RankProgram) (r : ℕ) → (get_or xs r idle_rank).instructions ≡ get_or (all_instructions xs) r []
instructions-at [] r = refl
instructions-at (x ∷ xs) zero = refl
instructions-at (x ∷ xs) (suc r) = instructions-at xs r

program-at : (size : ℕ) (ps : List Part) (r : ℕ) → get_or (map (program_of size) ps) r [] ≡ program_of size (part_at ps r)
program-at size [] r = sym (repeated-none size)
program-at size (p ∷ ps) zero = refl
program-at size (p ∷ ps) (suc r) = program-at size ps r

pub programs-at : (size : ℕ) (ps : List Part) (ts : List Tape) (w : Words) (r : ℕ) → (rank_of (programs_with size ps ts w) r).instructions ≡ program_of size (part_at ps r)
programs-at size ps ts w r =
    instructions-at (programs_with size ps ts w).ranks r ∙ ap (λ iss. get_or iss r []) (programs-instructions size ps ts w) ∙ program-at size ps r

-- ---- how many instructions
total-instructions : (xs : List RankProgram) → sum_by (λ x. length x.instructions) xs ≡ sum_by length (all_instructions xs)
total-instructions [] = refl
total-instructions (x ∷ xs) = sum_by-cons (λ y. length y.instructions) x xs ∙ ap (λ k. length x.instructions + k) (total-instructions xs) ∙ sym (sum_by-cons length x.instructions (all_instructions xs))

pub programs-total : (size : ℕ) (ps : List Part) (ts : List Tape) (w : Words) → sum_by (λ x. length x.instructions) (programs_with size ps ts w).ranks ≡ sum_by length (map (program_of size) ps)
programs-total size ps ts w = total-instructions (programs_with size ps ts w).ranks ∙ ap (sum_by length) (programs-instructions size ps ts w)
