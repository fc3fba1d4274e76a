-- The faults of single instructions: the ranks that they name, and their slots
use Rattle.std.specs.Prelude.{ℕ, ◌<◌, ◌==◌, nat_lt, Bool, true, false, ◌&&◌, if◌then◌else◌, List, fold, take, Option, Some, None, slice_get, length}
use Rattle.std.specs.Option.{option_or}
use Rattle.qm_limits.specs.declared.TheConstants.{SLOTS}
use Rattle.qm_instr.specs.declared.Instr.{Instr}
use Rattle.qm_instr.specs.Programs.{Programs, rank_of}
use Rattle.qm_check.specs.declared.Fault.{Fault}
use Rattle.qm_check.specs.declared.Fault.TheVariants as fault
use Rattle.qm_check.specs.declared.Uses.{Uses}
use Rattle.qm_check.specs.declared.Uses.TheVariants.{Nothing, Fills, Keeps, Empties, Joins}
use Rattle.qm_check.specs.Operands.{uses_of, partner_of}

-- each slot is one that a rank may have
abbrev pub HasFewSlots : Uses → Type 0
HasFewSlots Nothing = Unit {0}
HasFewSlots (Fills q) = q < SLOTS
HasFewSlots (Keeps q) = q < SLOTS
HasFewSlots (Empties q) = q < SLOTS
HasFewSlots (Joins c t) = (c < SLOTS) × (t < SLOTS)

-- whether slot q is full after an instruction, by whether it was before
abbrev pub is_full_after : ℕ → Bool → Uses → Bool
is_full_after q before (Fills s) = if s == q then true else before
is_full_after q before (Empties s) = if s == q then false else before
is_full_after q before Nothing = before
is_full_after q before (Keeps s) = before
is_full_after q before (Joins c t) = before

-- whether slot q is full after these instructions, if all slots are empty at first
abbrev pub full_after : List Instr → ℕ → Bool
full_after is q = fold (λ before i. is_full_after q before (uses_of i)) false is

-- the fault of instruction k of rank r, among n ranks, by the rank that it names
abbrev pub partner_fault : ℕ → ℕ → ℕ → Option ℕ → Option Fault
partner_fault n r k None = None
partner_fault n r k (Some other) =
    if nat_lt other n then (if other == r then Some (fault.SelfMessage r k) else None) else Some (fault.BadRank r k)

-- its fault by its slots, some of which are full
abbrev pub slot_fault : ℕ → ℕ → (ℕ → Bool) → Uses → Option Fault
slot_fault r k full Nothing = None
slot_fault r k full (Fills q) = if full q then Some (fault.SlotFull r k) else None
slot_fault r k full (Keeps q) = if full q then None else Some (fault.SlotEmpty r k)
slot_fault r k full (Empties q) = if full q then None else Some (fault.SlotEmpty r k)
slot_fault r k full (Joins c t) =
    if c == t then Some (fault.SameSlot r k) else (if full c && full t then None else Some (fault.SlotEmpty r k))

-- its first fault
abbrev pub instruction_fault : ℕ → ℕ → ℕ → (ℕ → Bool) → Instr → Option Fault
instruction_fault n r k full i =
    option_or (partner_fault n r k (partner_of i)) (slot_fault r k full (uses_of i))

-- that of an instruction, where there is one
abbrev pub fault_if_any : ℕ → ℕ → ℕ → (ℕ → Bool) → Option Instr → Option Fault
fault_if_any n r k full None = None
fault_if_any n r k full (Some i) = instruction_fault n r k full i

-- the first fault of instruction k of rank r: its slots are full or empty after the instructions before it
abbrev pub step_fault : Programs → ℕ → ℕ → Option Fault
step_fault p r k =
    let is = (rank_of p r).instructions in
    fault_if_any (length p.ranks) r k (full_after (take k is)) (slice_get is k)
