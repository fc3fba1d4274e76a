-- Made texts are read to programs that are ready
use Rattle.std.proofs.Common.{◌≡◌, ℕ, zero, suc, ◌+◌, ◌<◌, ◌≤◌, List, [], ◌∷◌, length, map, replicate, sum_by, Ok, refl, sym, ap, subst, ◌∙◌, arith}
use Rattle.std.specs.Prelude.{All}
use Rattle.std.proofs.lemmas.List.Elements.{All-nil, All-cons, All-append, All-from_get_or}
use Rattle.std.proofs.lemmas.List.Sums.{sum_by-cons, sum_by-le, get_or-le-sum_by}
use Rattle.qm_instr.specs.declared.Instr.{Instr}
use Rattle.qm_instr.specs.Counts.{protocol_of, own_of}
use Rattle.qm_instr.specs.Operands.{HasOperands}
use Rattle.qm_instr.specs.Programs.{RankProgram, Programs, idle_rank, rank_of, instruction_total, IsRankInRange, IsInRange}
use Rattle.qm_parse.specs.Signs.{Sign, signs_of}
use Rattle.qm_parse.specs.Faults.{Spells, IsShallow}
use Rattle.qm_expand.specs.Steps.{Outcome, ◌>>=◌}
use Rattle.qm_expand.specs.Drafts.{Draft, draft}
use Rattle.qm_expand.specs.Expansion.{Lines, each_expanded, with_tapes, sized_ranks, expanded}
use Rattle.qm_expand.specs.Reading.{lines_of}
use Rattle.qm_expand.proofs.SignLemmas.{older-signs}
use Rattle.qm_gen.specs.declared.GenKind.{GenKind}
use Rattle.qm_seed.specs.Seeds.{Words}
use Rattle.qm_gen.specs.Sizes.{IsSize, ranks_of}
use Rattle.qm_gen.specs.Made.{tapes, made_text}
use Rattle.qm_gen.specs.Laws.{IsReadyText}
use Rattle.qm_gen.proofs.Deeds.{Deed, Alloc, Gate, Measure, WhenX, MoveTo, MoveFrom, CopyTo, CopyFrom, ReachTo, ReachFrom, instr_of, Part, part_body, parts, drawn_tapes, made_tree}
use Rattle.qm_gen.proofs.Growth.{repeated}
use Rattle.qm_gen.proofs.Expanded.{program_of}
use Rattle.qm_gen.proofs.RanksExpanded.{rows, program_total, ranks-expanded}
use Rattle.qm_gen.proofs.Sound.{part_at, ready}
use Rattle.qm_gen.proofs.MadeSigns.{made-tokens, ranks-most}
use Rattle.qm_gen.proofs.MadeMay.{made-may, made-shallow, parts-length, ranks-least}
use Rattle.qm_gen.proofs.MadeTapes.{tapes-are, programs-total}
use Rattle.qm_gen.proofs.MadeLength.{made-short}
use Rattle.qm_gen.proofs.MadeRuns.{made-sound, made-small, made-fits, made_programs, made-runs, has-room, rank-one}

-- ---- the programs are in their ranges
-- an instruction of a rank with one slot, which takes few outcomes
record IsFine (i : Instr) : Type 0 where
  operands : HasOperands 1 i
  own : own_of i ≤ 1
  protocol : protocol_of i ≤ 2

slot-zero : All (λ q. q < 1) (0 ∷ [])
slot-zero = All-cons (λ q. q < 1) 0 [] (omega arith) (All-nil (λ q. q < 1))

bit-zero : All (λ b. b < 32) (0 ∷ [])
bit-zero = All-cons (λ b. b < 32) 0 [] (omega arith) (All-nil (λ b. b < 32))

no-bits : All (λ b. b < 32) []
no-bits = All-nil (λ b. b < 32)

deed-fine : (x : Deed) → IsFine (instr_of x)
deed-fine Alloc = record { operands = record { slots = slot-zero; bits = no-bits }; own = omega arith; protocol = omega arith }
deed-fine (Gate g) = record { operands = record { slots = slot-zero; bits = no-bits }; own = omega arith; protocol = omega arith }
deed-fine Measure = record { operands = record { slots = slot-zero; bits = bit-zero }; own = omega arith; protocol = omega arith }
deed-fine WhenX = record { operands = record { slots = slot-zero; bits = bit-zero }; own = omega arith; protocol = omega arith }
deed-fine (MoveTo r) = record { operands = record { slots = slot-zero; bits = no-bits }; own = omega arith; protocol = omega arith }
deed-fine (MoveFrom r) = record { operands = record { slots = slot-zero; bits = no-bits }; own = omega arith; protocol = omega arith }
deed-fine (CopyTo r) = record { operands = record { slots = slot-zero; bits = no-bits }; own = omega arith; protocol = omega arith }
deed-fine (CopyFrom r) = record { operands = record { slots = slot-zero; bits = no-bits }; own = omega arith; protocol = omega arith }
deed-fine (ReachTo r) = record { operands = record { slots = slot-zero; bits = no-bits }; own = omega arith; protocol = omega arith }
deed-fine (ReachFrom r) = record { operands = record { slots = slot-zero; bits = no-bits }; own = omega arith; protocol = omega arith }

deeds-fine : (P : Instr → Type 0) → ((i : Instr) → IsFine i → P i) → (xs : List Deed) → All P (map instr_of xs)
deeds-fine P from [] = All-nil P
deeds-fine P from (x ∷ xs) = All-cons P (instr_of x) (map instr_of xs) (from (instr_of x) (deed-fine x)) (deeds-fine P from xs)

rounds-fine : (P : Instr → Type 0) (n : ℕ) (is : List Instr) → All P is → All P (repeated n is)
rounds-fine P zero is h = All-nil P
rounds-fine P (suc n) is h = All-append P is (repeated n is) h (rounds-fine P n is h)

program-fine : (P : Instr → Type 0) → ((i : Instr) → IsFine i → P i) → (size : ℕ) (p : Part) → All P (program_of size p)
program-fine P from size p = All-append P (map instr_of p.once) (repeated size (map instr_of p.again)) (deeds-fine P from p.once) (rounds-fine P size (map instr_of p.again) (deeds-fine P from p.again))

sum-totals : (size : ℕ) (ps : List Part) → sum_by length (map (program_of size) ps) ≡ program_total size ps
sum-totals size [] = refl
sum-totals size (p ∷ ps) = sum_by-cons length (program_of size p) (map (program_of size) ps) ∙ ap (λ k. length (program_of size p) + k) (sum-totals size ps)

made-few : (kind : GenKind) (size : ℕ) (w : Words) → IsSize kind size → instruction_total (made_programs kind size w) ≤ 100000
made-few kind size w h =
    let room = has-room kind size h in
    omega (arith, programs-total size (parts kind size) (tapes kind size) w, sum-totals size (parts kind size), room.0)

rank-in_range : (kind : GenKind) (size : ℕ) (w : Words) → IsSize kind size → (r : ℕ) → r < length (made_programs kind size w).ranks → IsRankInRange (rank_of (made_programs kind size w) r)
rank-in_range kind size w h r known =
    let p = made_programs kind size w in
    let x = rank_of p r in
    let runs = made-runs kind size w h in
    let one = rank-one kind size w h r in
    let q = one.qubits in let b = one.buffer in
    let few = made-few kind size w h in
    let here = get_or-le-sum_by (λ (y : RankProgram). length y.instructions) p.ranks r idle_rank known in
    let fine : (P : Instr → Type 0) → ((i : Instr) → IsFine i → P i) → All P x.instructions =
    λ P from. subst (λ (is : List Instr). All P is) (sym (runs.programs r)) (program-fine P from size (part_at (parts kind size) r)) in
    let tape = runs.tapes r in
    let own = sum_by-le own_of 1 x.instructions (fine (λ i. own_of i ≤ 1) (λ i f. f.own)) in
    let protocol = sum_by-le protocol_of 2 x.instructions (fine (λ i. protocol_of i ≤ 2) (λ i f. f.protocol)) in
    record {
      some_qubits = omega arith;
      most_qubits = omega arith;
      some_buffer = omega arith;
      most_buffer = omega arith;
      operands = subst (λ k. All (HasOperands k) x.instructions) (sym q) (fine (HasOperands 1) (λ i f. f.operands));
      own = omega (arith, tape.own, own, here, few);
      protocol = omega (arith, tape.protocol, protocol, here, few);
    }

made-in_range : (kind : GenKind) (size : ℕ) (w : Words) → IsSize kind size → IsInRange (made_programs kind size w)
made-in_range kind size w h =
    let p = made_programs kind size w in
    let runs = made-runs kind size w h in
    let version = runs.version in
    let ranks = runs.ranks in
    let count = parts-length kind size in
    let least = ranks-least kind size h in
    let most = ranks-most kind size h in
    record {
      least_version = omega arith;
      last_version = omega arith;
      some_ranks = omega arith;
      most_ranks = omega arith;
      each = All-from_get_or IsRankInRange p.ranks idle_rank (rank-in_range kind size w h);
      few = made-few kind size w h;
    }

-- ---- the text is read to them
idle-sized : (n : ℕ) → sized_ranks (replicate n 1) (replicate n 1) ≡ replicate n idle_rank
idle-sized zero = refl
idle-sized (suc n) = ap (λ rs. idle_rank ∷ rs) (idle-sized n)

made-expanded : (lines : Lines) (kind : GenKind) (size : ℕ) (w : Words) → IsSize kind size → expanded lines (made_tree kind size w) ≡ Ok (made_programs kind size w)
made-expanded lines kind size w h =
    let ps = parts kind size in
    let finish : Outcome Draft → Outcome Programs = λ o. o >>= λ d. Ok (with_tapes (drawn_tapes (tapes kind size) w) d.programs) in
    ap (λ (rs : List RankProgram). finish (each_expanded lines 8 (map (part_body size) ps) 0 (draft (record { version = 1; ranks = rs }) 0))) (idle-sized (ranks_of kind size))
    ∙ ap (λ n. finish (each_expanded lines 8 (map (part_body size) ps) 0 (draft (record { version = 1; ranks = replicate n idle_rank }) 0))) (sym (parts-length kind size))
    ∙ ap finish (ranks-expanded lines 8 0 size [] ps (made-fits kind size h))
    ∙ ap Ok (tapes-are (tapes kind size) w (record { version = 1; ranks = rows size ps }))

pub made-ready : (kind : GenKind) (size : ℕ) (w : Words) → IsSize kind size → IsReadyText (made_text kind size w)
made-ready kind size w h =
    let t = made-tokens kind size w h in
    let signs = older-signs (made_text kind size w) t.tokens _ _ t.signs in
    let spells : Spells (signs_of (made_text kind size w) t.tokens) (made_tree kind size w) = record {
      spelled = sym signs;
      may = made-may kind size w h (made-small kind size h);
      shallow = subst (λ (ss : List Sign). IsShallow 0 ss) (sym signs) (made-shallow kind size w h);
    } in
    record {
      short = made-short kind size w h;
      programs = made_programs kind size w;
      reads = (t.tokens, t.are, record { program = made_tree kind size w; spelled = spells; expands = made-expanded (lines_of t.tokens) kind size w h });
      ready = ready size (parts kind size) (made_programs kind size w) (made-runs kind size w h) (made-sound kind size h);
      in_range = made-in_range kind size w h;
    }
