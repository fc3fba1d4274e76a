-- Slots that are full or empty, and the faults of single instructions
use Rattle.std.proofs.Common.{◌≡◌, ℕ, ◌+◌, ◌<◌, ◌≤◌, Bool, false, List, [], ◌∷◌, length, get_or, take, Option, Some, None, slice_get, refl, sym, ap, subst, ◌∙◌, arith, All}
use Rattle.std.proofs.lemmas.Option.{get_or_from_slice_get, slice_get_within, slice_get_past}
use Rattle.std.proofs.lemmas.List.Sums.{fold_more}
use Rattle.std.proofs.lemmas.List.Elements.{All-get_or, All-head, All-tail}
use Rattle.std.specs.Option.{option_or}
use Rattle.qm_instr.specs.declared.Gate.{Gate}
use Rattle.qm_instr.specs.declared.Gate.TheVariants as gate
use Rattle.qm_instr.specs.declared.Instr.{Instr}
use Rattle.qm_instr.specs.declared.Instr.TheVariants as instr
use Rattle.qm_instr.specs.Operands.{HasOperands, slots_of, gate_slots}
use Rattle.qm_instr.specs.Programs.{Programs, rank_of, IsInRange}
use Rattle.qm_instr.proofs.Ranges.{rank_of-in_range}
use Rattle.qm_check.specs.declared.Fault.{Fault}
use Rattle.qm_check.specs.declared.Uses.{Uses}
use Rattle.qm_check.specs.declared.Uses.TheVariants.{Nothing, Fills, Keeps, Empties, Joins}
use Rattle.qm_check.specs.Operands.{uses_of, gate_uses, partner_of}
use Rattle.qm_check.specs.Faults.{IsFirst, IsBelow}
use Rattle.qm_check.proofs.Firsts.{IsFoundBelow, found_more, found_all}
use Rattle.qm_check.specs.Slots.{HasFewSlots, is_full_after, full_after, partner_fault, slot_fault, instruction_fault, fault_if_any, step_fault}

-- the only slot, and both slots, of a list
one_below : (n q : ℕ) → n ≤ 16 → All (λ s. s < n) (q ∷ []) → q < 16
one_below n q few h = let first : q < n = All-head (λ s. s < n) q [] h in omega arith

both_below : (n c t : ℕ) → n ≤ 16 → All (λ s. s < n) (c ∷ t ∷ []) → (c < 16) × (t < 16)
both_below n c t few h =
    let first : c < n = All-head (λ s. s < n) c (t ∷ []) h in
    (omega arith, one_below n t few (All-tail (λ s. s < n) c (t ∷ []) h))

gate_few : (n : ℕ) (g : Gate) → n ≤ 16 → All (λ s. s < n) (gate_slots g) → HasFewSlots (gate_uses g)
gate_few n (gate.One g q) few h = one_below n q few h
gate_few n (gate.Cx c t) few h = both_below n c t few h
gate_few n (gate.Cz c t) few h = both_below n c t few h

-- the slots of an instruction over at most 16 slots are below 16
uses-few : (n : ℕ) (i : Instr) → n ≤ 16 → All (λ s. s < n) (slots_of i) → HasFewSlots (uses_of i)
uses-few n (instr.Alloc q) few h = one_below n q few h
uses-few n (instr.Free q) few h = one_below n q few h
uses-few n (instr.Do g) few h = gate_few n g few h
uses-few n (instr.Measure q b) few h = one_below n q few h
uses-few n (instr.When b g) few h = gate_few n g few h
uses-few n (instr.CopyTo q to tag) few h = one_below n q few h
uses-few n (instr.CopyFrom q from tag) few h = one_below n q few h
uses-few n (instr.UndoTo q to tag) few h = one_below n q few h
uses-few n (instr.UndoFrom q from tag) few h = one_below n q few h
uses-few n (instr.MoveTo q to tag) few h = one_below n q few h
uses-few n (instr.MoveFrom q from tag) few h = one_below n q few h
uses-few n (instr.ReachTo q to tag) few h = one_below n q few h
uses-few n (instr.ReachFrom t from tag) few h = one_below n t few h
uses-few n _ few h = tt

-- each instruction of programs in range has few slots
pub instruction_slots-few : (p : Programs) (r k : ℕ) (i : Instr) → r < length p.ranks
    → IsInRange p → slice_get (rank_of p r).instructions k ≡ Some i → HasFewSlots (uses_of i)
instruction_slots-few p r k i known h read =
    let x = rank_of p r in
    let ranges = rank_of-in_range p r known h in
    let operands : HasOperands x.qubits (get_or x.instructions k i) = All-get_or (HasOperands x.qubits) x.instructions k i (slice_get_within x.instructions k i read) ranges.operands in
    let here : HasOperands x.qubits i = subst (HasOperands x.qubits) (get_or_from_slice_get x.instructions k i i read) operands in
    uses-few x.qubits i ranges.most_qubits here.slots

-- whether a slot is full after one more instruction
pub full_after_more : (is : List Instr) (k q : ℕ) (i : Instr) → slice_get is k ≡ Some i
    → full_after (take (k + 1) is) q ≡ is_full_after q (full_after (take k is) q) (uses_of i)
full_after_more is k q i read =
    fold_more (λ (before : Bool) (j : Instr). is_full_after q before (uses_of j)) false is k i (slice_get_within is k i read)
    ∙ ap (λ (j : Instr). is_full_after q (full_after (take k is) q) (uses_of j)) (get_or_from_slice_get is k i i read)

-- slots that agree below 16 have the same fault
slot_fault-same : (r k : ℕ) (f g : ℕ → Bool) (u : Uses) → ((q : ℕ) → q < 16 → f q ≡ g q)
    → HasFewSlots u → slot_fault r k f u ≡ slot_fault r k g u
slot_fault-same r k f g Nothing same few = refl
slot_fault-same r k f g (Fills q) same few = rw (same q few)
slot_fault-same r k f g (Keeps q) same few = rw (same q few)
slot_fault-same r k f g (Empties q) same few = rw (same q few)
slot_fault-same r k f g (Joins c t) same few = rw (same c few.0, same t few.1)

-- the code's slots give the fault of an instruction
pub step_fault-at : (p : Programs) (r k : ℕ) (f : ℕ → Bool) (i : Instr)
    → ((q : ℕ) → q < 16 → f q ≡ full_after (take k (rank_of p r).instructions) q)
    → HasFewSlots (uses_of i) → slice_get (rank_of p r).instructions k ≡ Some i
    → step_fault p r k ≡ instruction_fault (length p.ranks) r k f i
step_fault-at p r k f i same few read =
    let full = full_after (take k (rank_of p r).instructions) in
    ap (λ (o : Option Instr). fault_if_any (length p.ranks) r k full o) read
    ∙ ap (option_or (partner_fault (length p.ranks) r k (partner_of i))) (sym (slot_fault-same r k f full (uses_of i) same few))

-- past its last instruction a rank has no fault
pub step_fault-past : (p : Programs) (r k : ℕ) → length (rank_of p r).instructions ≤ k
    → step_fault p r k ≡ None
step_fault-past p r k past =
    ap (λ (o : Option Instr). fault_if_any (length p.ranks) r k (full_after (take k (rank_of p r).instructions)) o) (slice_get_past (rank_of p r).instructions k past)

-- what is found in the instructions before number k: their first fault, where there is one, and which slots are full after them
pub record IsWalked (p : Programs) (r k : ℕ) (full : ℕ → Bool) (o : Option Fault) : Type 0 where
  pub found : IsFoundBelow (step_fault p r) k o
  pub slots : (q : ℕ) → q < 16 → full q ≡ full_after (take k (rank_of p r).instructions) q

-- the fault that the code finds is that of the instruction
pub walked_fault : (p : Programs) (r k n : ℕ) (full : ℕ → Bool) (i : Instr) (o x : Option Fault)
    → r < length p.ranks → IsInRange p → IsWalked p r k full o → n ≡ length p.ranks
    → slice_get (rank_of p r).instructions k ≡ Some i → x ≡ instruction_fault n r k full i
    → step_fault p r k ≡ x
walked_fault p r k n full i o x known h walked same read found =
    step_fault-at p r k full i walked.slots (instruction_slots-few p r k i known h read) read
    ∙ ap (λ (m : ℕ). instruction_fault m r k full i) (sym same)
    ∙ sym found

-- one instruction more
pub walked_more : (p : Programs) (r k : ℕ) (full next : ℕ → Bool) (i : Instr) (o x : Option Fault)
    → IsWalked p r k full o → slice_get (rank_of p r).instructions k ≡ Some i
    → step_fault p r k ≡ x → ((q : ℕ) → q < 16 → next q ≡ is_full_after q (full q) (uses_of i))
    → IsWalked p r (k + 1) next (option_or o x)
walked_more p r k full next i o x walked read found moved = record {
  found = found_more (step_fault p r) k o x walked.found found;
  slots =
      λ q few. moved q few
      ∙ ap (λ (b : Bool). is_full_after q b (uses_of i)) (walked.slots q few)
      ∙ sym (full_after_more (rank_of p r).instructions k q i read);
}

-- after its last instruction a rank has no fault
pub walked_all : (p : Programs) (r k : ℕ) (full : ℕ → Bool) (o : Option Fault)
    → IsWalked p r k full o → length (rank_of p r).instructions ≤ k
    → IsFirst IsBelow (step_fault p r) o
walked_all p r k full o walked all =
    found_all (step_fault p r) k o walked.found (λ j past. step_fault-past p r j (omega arith))
