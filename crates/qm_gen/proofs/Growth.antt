-- What an expansion adds to the program of a rank
use Rattle.std.proofs.Common.{◌≡◌, ℕ, zero, suc, ◌+◌, ◌<◌, ◌≤◌, Bool, true, List, [], ◌∷◌, ◌++◌, length, ℤ, pos, ◌+ℤ◌, Ok, Err, sym, ap, subst, ◌∙◌, arith, append_assoc, append-nil, length-append, length-set}
use Rattle.std.specs.Prelude.{if◌then◌else◌}
use Rattle.std.proofs.lemmas.Bool.{lt-ltb}
use Rattle.std.proofs.lemmas.List.{set-set, set-get_or, get_or-set_same}
use Rattle.qm_instr.specs.declared.Instr.{Instr}
use Rattle.qm_instr.specs.Programs.{RankProgram, Programs, idle_rank, rank_of, with_rank, instruction_total}
use Rattle.qm_instr.proofs.Ranges.{instruction_total-with_rank}
use Rattle.qm_expand.specs.Steps.{Outcome, ◌>>=◌, OutOfRange, TooMany}
use Rattle.qm_expand.specs.Drafts.{Draft, draft, has_operands, counted, with_each, with_turn}
use Rattle.qm_expand.specs.Expansion.{each_turn}

-- instructions at the end of a rank's program
abbrev pub with_program : Programs → ℕ → List Instr → Programs
with_program p r is = with_rank p r (record (rank_of p r) { instructions = (rank_of p r).instructions ++ is })

abbrev pub grown : Draft → ℕ → List Instr → ℕ → Draft
grown d r is t = draft (with_program d.programs r is) (d.turns + t)

-- a rank with one slot, and room for so many instructions and turns
pub record Room (d : Draft) (r k t : ℕ) : Type 0 where
  pub known : r < length d.programs.ranks
  pub slots : (rank_of d.programs r).qubits ≡ 1
  pub instructions : instruction_total d.programs + k ≤ 100000
  pub turns : d.turns + t ≤ 1000000

-- where there is room, a step adds these instructions and so many turns
abbrev pub Adds : ℕ → List Instr → ℕ → (Draft → Outcome Draft) → Type 0
Adds r is t step = (d : Draft) → Room d r (length is) t → step d ≡ Ok (grown d r is t)

-- ---- a rank as it was
same_program : (p : Programs) (r : ℕ) → with_program p r [] ≡ p
same_program p r =
    ap (λ (is : List Instr). with_rank p r (record (rank_of p r) { instructions = is })) (append-nil (rank_of p r).instructions)
    ∙ ap (λ (rs : List RankProgram). record p { ranks = rs }) (set-get_or p.ranks r idle_rank)

same_draft : (d : Draft) (r t : ℕ) → draft d.programs (d.turns + t) ≡ grown d r [] t
same_draft d r t = ap (λ (p : Programs). draft p (d.turns + t)) (sym (same_program d.programs r))

pub adds-nothing : (r : ℕ) → Adds r [] 0 (λ d. Ok d)
adds-nothing r d room =
    let none : d.turns ≡ d.turns + 0 = omega arith in
    ap (λ k. Ok (draft d.programs k)) none ∙ ap Ok (same_draft d r 0)

-- ---- one step behind another
twice : (p : Programs) (r : ℕ) (is js : List Instr) → r < length p.ranks → with_program (with_program p r is) r js ≡ with_program p r (is ++ js)
twice p r is js known =
    let x : RankProgram = record (rank_of p r) { instructions = (rank_of p r).instructions ++ is } in
    let there : rank_of (with_program p r is) r ≡ x = get_or-set_same p.ranks r x idle_rank known in
    ap (λ (y : RankProgram). with_rank (with_program p r is) r (record y { instructions = y.instructions ++ js })) there
    ∙ ap (λ (rs : List RankProgram). record p { ranks = rs }) (set-set p.ranks r x (record x { instructions = x.instructions ++ js }))
    ∙ ap (λ (ks : List Instr). with_rank p r (record (rank_of p r) { instructions = ks })) (append_assoc (rank_of p r).instructions is js)

pub more_instructions : (p : Programs) (r : ℕ) (is : List Instr) → r < length p.ranks → instruction_total (with_program p r is) ≡ instruction_total p + length is
more_instructions p r is known =
    let x = rank_of p r in
    omega (arith, length-append x.instructions is, instruction_total-with_rank p r (record x { instructions = x.instructions ++ is }) known)

room-after : (d : Draft) (r t u : ℕ) (is js : List Instr) → Room d r (length (is ++ js)) (t + u) → Room (grown d r is t) r (length js) u
room-after d r t u is js room =
    let x : RankProgram = record (rank_of d.programs r) { instructions = (rank_of d.programs r).instructions ++ is } in
    let there : rank_of (with_program d.programs r is) r ≡ x = get_or-set_same d.programs.ranks r x idle_rank room.known in
    let known = room.known in let few = room.instructions in let turns = room.turns in
    record {
      known = omega (arith, length-set d.programs.ranks r x);
      slots = ap (λ (y : RankProgram). y.qubits) there ∙ room.slots;
      instructions = omega (arith, length-append is js, more_instructions d.programs r is known);
      turns = omega arith;
    }

pub adds-then : (r t u : ℕ) (is js : List Instr) (f g : Draft → Outcome Draft) → Adds r is t f → Adds r js u g → Adds r (is ++ js) (t + u) (λ d. f d >>= g)
adds-then r t u is js f g a b d room =
    let few = room.instructions in let turns = room.turns in
    let first : Room d r (length is) t = record { known = room.known; slots = room.slots; instructions = omega (arith, length-append is js); turns = omega arith } in
    let sum : d.turns + t + u ≡ d.turns + (t + u) = omega arith in
    ap (λ o. o >>= g) (a d first) ∙ b (grown d r is t) (room-after d r t u is js room)
    ∙ ap (λ (p : Programs). Ok (draft p (d.turns + t + u))) (twice d.programs r is js room.known)
    ∙ ap (λ k. Ok (draft (with_program d.programs r (is ++ js)) k)) sum

-- ---- an instruction, a turn, a loop
pub adds-one : (line r : ℕ) (i : Instr) → has_operands 1 i ≡ true → Adds r (i ∷ []) 0 (with_each line r (i ∷ []))
adds-one line r i has d room =
    let few = room.instructions in
    let low : instruction_total d.programs < 100000 = omega arith in
    let none : d.turns ≡ d.turns + 0 = omega arith in
    ap (λ (q : ℕ). (if has_operands q i then counted line r i d else Err (OutOfRange line)) >>= with_each line r []) room.slots
    ∙ ap (λ (b : Bool). (if b then counted line r i d else Err (OutOfRange line)) >>= with_each line r []) has
    ∙ ap (λ (b : Bool). (if b then Ok (record d { programs = with_program d.programs r (i ∷ []) }) else Err (TooMany line)) >>= with_each line r []) (lt-ltb (instruction_total d.programs) 100000 low)
    ∙ ap (λ k. Ok (draft (with_program d.programs r (i ∷ [])) k)) none

adds-turn : (line r : ℕ) → Adds r [] 1 (with_turn line)
adds-turn line r d room =
    let few = room.turns in
    let low : d.turns < 1000000 = omega arith in
    ap (λ (b : Bool). if b then Ok (record d { turns = d.turns + 1 }) else Err (TooMany line)) (lt-ltb d.turns 1000000 low) ∙ ap Ok (same_draft d r 1)

abbrev pub repeated : {A : Type 0} → ℕ → List A → List A
repeated zero xs = []
repeated (suc n) xs = xs ++ repeated n xs

pub adds-turns : (line r : ℕ) (is : List Instr) (body : ℤ → Draft → Outcome Draft) → ((i : ℤ) → Adds r is 0 (body i)) → (n : ℕ) (i : ℤ) → Adds r (repeated n is) n (each_turn line body n i)
adds-turns line r is body each zero i = adds-nothing r
adds-turns line r is body each (suc n) i =
    let count : 1 + (0 + n) ≡ suc n = omega arith in
    subst (λ k. Adds r (is ++ repeated n is) k (each_turn line body (suc n) i)) count
    (adds-then r 1 (0 + n) [] (is ++ repeated n is) (with_turn line) (λ e. body i e >>= each_turn line body n (i +ℤ pos 1)) (adds-turn line r)
    (adds-then r 0 n is (repeated n is) (body i) (each_turn line body n (i +ℤ pos 1)) (each i) (adds-turns line r is body each n (i +ℤ pos 1))))
