-- The expansion of all ranks of a made tree
use Rattle.std.proofs.Common.{◌≡◌, ℕ, suc, ◌+◌, ◌<◌, ◌≤◌, List, [], ◌∷◌, ◌++◌, length, get_or, set, map, replicate, Ok, refl, sym, ap, ◌∙◌, arith, append_assoc, length-append}
use Rattle.qm_instr.specs.declared.Instr.{Instr}
use Rattle.qm_instr.specs.Programs.{RankProgram, Programs, idle_rank, rank_of, instruction_total}
use Rattle.qm_parse.specs.Spelling.{body_signs}
use Rattle.qm_expand.specs.Steps.{Outcome, ◌>>=◌}
use Rattle.qm_expand.specs.Drafts.{Draft, draft}
use Rattle.qm_expand.specs.Expansion.{Lines, body_expanded, rank_scope, each_expanded}
use Rattle.qm_gen.proofs.Deeds.{Part, part_body}
use Rattle.qm_gen.proofs.Growth.{Room, grown, more_instructions}
use Rattle.qm_gen.proofs.Expanded.{turns_of, program_of, SmallPart, adds-part}

-- ---- the first rank behind those that are done
here : {A : Type 0} (xs ys : List A) (x d : A) → get_or (xs ++ x ∷ ys) (length xs) d ≡ x
here [] ys x d = refl
here (y ∷ xs) ys x d = here xs ys x d

put_here : {A : Type 0} (xs ys : List A) (x y : A) → set (xs ++ x ∷ ys) (length xs) y ≡ xs ++ y ∷ ys
put_here [] ys x y = refl
put_here (z ∷ xs) ys x y = ap (λ t. z ∷ t) (put_here xs ys x y)

-- a rank with a program and empty tapes
abbrev pub row : ℕ → Part → RankProgram
row size p = record idle_rank { instructions = program_of size p }

abbrev pub rows : ℕ → List Part → List RankProgram
rows size ps = map (row size) ps

abbrev pub program_total : ℕ → List Part → ℕ
program_total size [] = 0
program_total size (p ∷ ps) = length (program_of size p) + program_total size ps

abbrev pub turn_total : ℕ → List Part → ℕ
turn_total size [] = 0
turn_total size (p ∷ ps) = turns_of size p.again + turn_total size ps

abbrev pub SmallParts : List Part → Type 0
SmallParts [] = Unit {0}
SmallParts (p ∷ ps) = SmallPart p × SmallParts ps

-- ranks that are done, and so many that are idle
abbrev pub partly : List RankProgram → ℕ → Programs
partly done n = record { version = 1; ranks = done ++ replicate n idle_rank }

grown-here : (done : List RankProgram) (n t size : ℕ) (p : Part) → grown (draft (partly done (suc n)) t) (length done) (program_of size p) (turns_of size p.again) ≡ draft (partly (done ++ row size p ∷ []) n) (t + turns_of size p.again)
grown-here done n t size p =
    let rest : List RankProgram = replicate n idle_rank in
    let is : List Instr = program_of size p in
    let count : ℕ = t + turns_of size p.again in
    ap (λ (x : RankProgram). draft (record { version = 1; ranks = set (done ++ idle_rank ∷ rest) (length done) (record x { instructions = x.instructions ++ is }) }) count) (here done rest idle_rank idle_rank)
    ∙ ap (λ (xs : List RankProgram). draft (record { version = 1; ranks = xs }) count) (put_here done rest idle_rank (row size p) ∙ sym (append_assoc done (row size p ∷ []) rest))

-- how far the ranks are expanded
pub record Fits (done : List RankProgram) (t size : ℕ) (ps : List Part) : Type 0 where
  pub size_few : size ≤ 2147483647
  pub small : SmallParts ps
  pub instructions : instruction_total (partly done (length ps)) + program_total size ps ≤ 100000
  pub turns : t + turn_total size ps ≤ 1000000

rank-expanded : (lines : Lines) (at t size : ℕ) (done : List RankProgram) (p : Part) (ps : List Part) → Fits done t size (p ∷ ps)
    → body_expanded lines (rank_scope (partly done (suc (length ps))) (length done)) at (part_body size p) (draft (partly done (suc (length ps))) t)
    ≡ Ok (draft (partly (done ++ row size p ∷ []) (length ps)) (t + turns_of size p.again))
rank-expanded lines at t size done p ps fits =
    let n : ℕ = length ps in
    let all : Programs = partly done (suc n) in
    let read : rank_of all (length done) ≡ idle_rank = here done (replicate n idle_rank) idle_rank idle_rank in
    let few = fits.instructions in let turns = fits.turns in
    let room : Room (draft all t) (length done) (length (program_of size p)) (turns_of size p.again) = record {
      known = omega (arith, length-append done (idle_rank ∷ replicate n idle_rank));
      slots = ap (λ (x : RankProgram). x.qubits) read;
      instructions = omega arith;
      turns = omega arith;
    } in
    ap (λ (x : RankProgram). body_expanded lines (record { rank = length done; ranks = length all.ranks; qubits = x.qubits; names = [] }) at (part_body size p) (draft all t)) read
    ∙ adds-part lines (length done) (length all.ranks) size p fits.size_few fits.small.0 at (draft all t) room
    ∙ ap Ok (grown-here done n t size p)

fits-more : (done : List RankProgram) (t size : ℕ) (p : Part) (ps : List Part) → Fits done t size (p ∷ ps) → Fits (done ++ row size p ∷ []) (t + turns_of size p.again) size ps
fits-more done t size p ps fits =
    let n : ℕ = length ps in
    let few = fits.instructions in let turns = fits.turns in
    let known : length done < length (partly done (suc n)).ranks = omega (arith, length-append done (idle_rank ∷ replicate n idle_rank)) in
    let total : instruction_total (partly (done ++ row size p ∷ []) n) ≡ instruction_total (partly done (suc n)) + length (program_of size p) =
    ap (λ (d : Draft). instruction_total d.programs) (sym (grown-here done n t size p)) ∙ more_instructions (partly done (suc n)) (length done) (program_of size p) known
    in
    record { size_few = fits.size_few; small = fits.small.1; instructions = omega arith; turns = omega arith }

pub ranks-expanded : (lines : Lines) (at t size : ℕ) (done : List RankProgram) (ps : List Part) → Fits done t size ps
    → each_expanded lines at (map (part_body size) ps) (length done) (draft (partly done (length ps)) t) ≡ Ok (draft (record { version = 1; ranks = done ++ rows size ps }) (t + turn_total size ps))
ranks-expanded lines at t size done [] fits = let none : t ≡ t + 0 = omega arith in ap (λ k. Ok (draft (record { version = 1; ranks = done ++ [] }) k)) none
ranks-expanded lines at t size done (p ∷ ps) fits =
    let x : RankProgram = row size p in
    let more : ℕ = turns_of size p.again in
    let next : ℕ = at + 3 + length (body_signs (part_body size p)) in
    let longer : length done + 1 ≡ length (done ++ x ∷ []) = sym (length-append done (x ∷ [])) in
    let sum : t + more + turn_total size ps ≡ t + (more + turn_total size ps) = omega arith in
    ap (λ (o : Outcome Draft). o >>= each_expanded lines next (map (part_body size) ps) (length done + 1)) (rank-expanded lines (at + 2) t size done p ps fits)
    ∙ ap (λ k. each_expanded lines next (map (part_body size) ps) k (draft (partly (done ++ x ∷ []) (length ps)) (t + more))) longer
    ∙ ranks-expanded lines next (t + more) size (done ++ x ∷ []) ps (fits-more done t size p ps fits)
    ∙ ap (λ (xs : List RankProgram). Ok (draft (record { version = 1; ranks = xs }) (t + more + turn_total size ps))) (append_assoc done (x ∷ []) (rows size ps))
    ∙ ap (λ k. Ok (draft (record { version = 1; ranks = done ++ x ∷ rows size ps }) k)) sum
