-- Programs stay in their ranges
use Rattle.std.proofs.Common.{◌≡◌, ℕ, ◌+◌, ◌<◌, ◌≤◌, Bool, List, [], ◌∷◌, ◌++◌, length, get_or, sym, subst, ap, ◌∙◌, refl, arith, All, replicate, length-append}
use Rattle.std.proofs.lemmas.List.{length-set, length-replicate, get_or_read}
use Rattle.std.proofs.lemmas.List.Elements.{All-nil, All-push, All-set, All-get_or, All-replicate}
use Rattle.std.proofs.lemmas.List.Sums.{sum_by-set, sum_by-le}
use Rattle.qm_limits.specs.declared.TheConstants.{MOST_RANKS, SLOTS, MOST_HALVES, MOST_INSTRUCTIONS, MOST_OUTCOMES}
use Rattle.qm_instr.specs.declared.Instr.{Instr}
use Rattle.qm_instr.specs.Operands.{HasOperands}
use Rattle.qm_instr.specs.Programs.{RankProgram, Programs, idle_rank, rank_of, with_rank, with_sizes, idle, with_instruction, with_own, with_protocol, instruction_total, IsRankInRange, IsInRange}

-- each rank is in its ranges
pub rank_of-in_range : (p : Programs) (r : ℕ) → r < length p.ranks → IsInRange p
    → IsRankInRange (rank_of p r)
rank_of-in_range p r known h = All-get_or IsRankInRange p.ranks r idle_rank known h.each

-- how the number of instructions changes with one rank
pub instruction_total-with_rank : (p : Programs) (r : ℕ) (x : RankProgram) → r < length p.ranks
    → instruction_total (with_rank p r x) + length (rank_of p r).instructions ≡ instruction_total p + length x.instructions
instruction_total-with_rank p r x known =
    sum_by-set (λ (y : RankProgram). length y.instructions) p.ranks r x idle_rank known

-- an instruction more
pub instruction_total-with_instruction : (p : Programs) (r : ℕ) (i : Instr) → r < length p.ranks
    → instruction_total (with_instruction p r i) ≡ instruction_total p + 1
instruction_total-with_instruction p r i known =
    let x = rank_of p r in
    let longer : length (x.instructions ++ i ∷ []) ≡ length x.instructions + 1 = length-append x.instructions (i ∷ []) in
    omega (arith, longer, instruction_total-with_rank p r (record x { instructions = x.instructions ++ i ∷ [] }) known)

-- a rank may be replaced by one in its ranges, if the instructions stay few
with_rank-in_range : (p : Programs) (r : ℕ) (x : RankProgram) → r < length p.ranks → IsInRange p
    → IsRankInRange x → instruction_total (with_rank p r x) ≤ MOST_INSTRUCTIONS
    → IsInRange (with_rank p r x)
with_rank-in_range p r x known h ranges few = record {
  least_version = h.least_version;
  last_version = h.last_version;
  some_ranks = omega (arith, length-set p.ranks r x, h.some_ranks);
  most_ranks = omega (arith, length-set p.ranks r x, h.most_ranks);
  each = All-set IsRankInRange p.ranks r x ranges h.each;
  few = few;
}

-- the same number of instructions as before
same_few : (p : Programs) (r : ℕ) (x : RankProgram) → r < length p.ranks → IsInRange p
    → length x.instructions ≡ length (rank_of p r).instructions
    → instruction_total (with_rank p r x) ≤ MOST_INSTRUCTIONS
same_few p r x known h same = omega (arith, instruction_total-with_rank p r x known, h.few)

pub same_rank-in_range : (p : Programs) (r : ℕ) → r < length p.ranks → IsInRange p
    → IsInRange (with_rank p r (rank_of p r))
same_rank-in_range p r known h =
    with_rank-in_range p r (rank_of p r) known h (rank_of-in_range p r known h) (same_few p r (rank_of p r) known h refl)

pub with_sizes-in_range : (p : Programs) (r q b : ℕ) → r < length p.ranks
    → (rank_of p r).instructions ≡ [] → 1 ≤ q → q ≤ SLOTS → 1 ≤ b → b ≤ MOST_HALVES → IsInRange p
    → IsInRange (with_sizes p r q b)
with_sizes-in_range p r q b known unwritten some_q most_q some_b most_b h =
    let x = rank_of p r in
    let was = rank_of-in_range p r known h in
    let now : RankProgram = record x { qubits = q; buffer = b } in
    with_rank-in_range p r now known h
    (record {
      some_qubits = some_q;
      most_qubits = most_q;
      some_buffer = some_b;
      most_buffer = most_b;
      operands = subst (λ (is : List Instr). All (HasOperands q) is) (sym unwritten) (All-nil (HasOperands q));
      own = was.own;
      protocol = was.protocol;
    })
    (same_few p r now known h refl)

pub with_instruction-in_range : (p : Programs) (r : ℕ) (i : Instr) → r < length p.ranks
    → HasOperands (rank_of p r).qubits i → instruction_total p < MOST_INSTRUCTIONS → IsInRange p
    → IsInRange (with_instruction p r i)
with_instruction-in_range p r i known operands few h =
    let x = rank_of p r in
    let was = rank_of-in_range p r known h in
    with_rank-in_range p r (record x { instructions = x.instructions ++ i ∷ [] }) known h
    (record {
      some_qubits = was.some_qubits;
      most_qubits = was.most_qubits;
      some_buffer = was.some_buffer;
      most_buffer = was.most_buffer;
      operands = All-push (HasOperands x.qubits) x.instructions i was.operands operands;
      own = was.own;
      protocol = was.protocol;
    })
    (omega (arith, instruction_total-with_instruction p r i known))

-- a tape that had room has one outcome more
longer_tape : (xs : List Bool) (m : Bool) → length xs < MOST_OUTCOMES
    → length (xs ++ m ∷ []) ≤ MOST_OUTCOMES
longer_tape xs m room = omega (arith, length-append xs (m ∷ []))

pub with_own-in_range : (p : Programs) (r : ℕ) (m : Bool) → r < length p.ranks
    → length (rank_of p r).own < MOST_OUTCOMES → IsInRange p → IsInRange (with_own p r m)
with_own-in_range p r m known room h =
    let x = rank_of p r in
    let was = rank_of-in_range p r known h in
    let now : RankProgram = record x { own = x.own ++ m ∷ [] } in
    with_rank-in_range p r now known h
    (record {
      some_qubits = was.some_qubits;
      most_qubits = was.most_qubits;
      some_buffer = was.some_buffer;
      most_buffer = was.most_buffer;
      operands = was.operands;
      own = longer_tape x.own m room;
      protocol = was.protocol;
    })
    (same_few p r now known h refl)

pub with_protocol-in_range : (p : Programs) (r : ℕ) (m : Bool) → r < length p.ranks
    → length (rank_of p r).protocol < MOST_OUTCOMES → IsInRange p
    → IsInRange (with_protocol p r m)
with_protocol-in_range p r m known room h =
    let x = rank_of p r in
    let was = rank_of-in_range p r known h in
    let now : RankProgram = record x { protocol = x.protocol ++ m ∷ [] } in
    with_rank-in_range p r now known h
    (record {
      some_qubits = was.some_qubits;
      most_qubits = was.most_qubits;
      some_buffer = was.some_buffer;
      most_buffer = was.most_buffer;
      operands = was.operands;
      own = was.own;
      protocol = longer_tape x.protocol m room;
    })
    (same_few p r now known h refl)

-- what the code reads is the rank
read_rank : (p : Programs) (r : ℕ) (x : RankProgram) → r < length p.ranks → x ≡ get_or p.ranks r x
    → x ≡ rank_of p r
read_rank p r x known read = get_or_read p.ranks r x known read idle_rank

-- the programs after an edit of one rank in place are the edited programs
pub edited : (edit : RankProgram → RankProgram) (p v : Programs) (s r : ℕ) (x y : RankProgram)
    → p ≡ v → s ≡ r → r < length v.ranks → x ≡ get_or p.ranks s x → y ≡ edit x
    → with_rank v r (edit (rank_of v r)) ≡ with_rank p s y
edited edit p v s r x y same_p same_r known read made =
    let at : s < length p.ranks = subst (λ (z : ℕ). z < length p.ranks) (sym same_r) (subst (λ (z : Programs). r < length z.ranks) (sym same_p) known) in
    let is : x ≡ rank_of p s = read_rank p s x at read in
    let new : y ≡ edit (rank_of p s) = made ∙ ap edit is in
    let here : with_rank p r (edit (rank_of p r)) ≡ with_rank p s y =
    ap (λ (z : ℕ). with_rank p z (edit (rank_of p z))) (sym same_r)
    ∙ ap (λ (z : RankProgram). with_rank p s z) (sym new)
    in
    ap (λ (z : Programs). with_rank z r (edit (rank_of z r))) (sym same_p) ∙ here

-- ranks that do nothing are in their ranges
pub idle-in_range : (version ranks : ℕ) → 1 ≤ version → version ≤ 2 → 1 ≤ ranks
    → ranks ≤ MOST_RANKS → IsInRange (idle version ranks)
idle-in_range version ranks least last some most =
    let none : (r : RankProgram) → ℕ = λ r. length r.instructions in
    record {
      least_version = least;
      last_version = last;
      some_ranks = omega (arith, length-replicate ranks idle_rank);
      most_ranks = omega (arith, length-replicate ranks idle_rank);
      each =
          All-replicate IsRankInRange ranks idle_rank
          (record {
            some_qubits = omega arith;
            most_qubits = omega arith;
            some_buffer = omega arith;
            most_buffer = omega arith;
            operands = All-nil (HasOperands 1);
            own = omega arith;
            protocol = omega arith;
          });
      few =
          omega (arith, sum_by-le none 0 (replicate ranks idle_rank) (All-replicate (λ r. none r ≤ 0) ranks idle_rank (omega arith)));
    }
