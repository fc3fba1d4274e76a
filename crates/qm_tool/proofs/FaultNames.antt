-- No line names a lane of answers
use Rattle.std.proofs.Common.{◌≡◌, ◌≢◌, ℕ, ◌==◌, nat_lt, Bool, true, false, ◌||◌, ◌&&◌, if◌then◌else◌, List, Option, Some, None, length, sum_by, take, slice_get, refl, ap, subst}
use Rattle.std.proofs.lemmas.Option.{same_Some, none-some}
use Rattle.std.specs.Option.{option_or}
use Rattle.qm_instr.specs.declared.Instr.{Instr}
use Rattle.qm_instr.specs.declared.Kind.{Kind}
use Rattle.qm_instr.specs.declared.Kind.TheVariants as kind
use Rattle.qm_instr.specs.declared.Lane.{Lane}
use Rattle.qm_instr.specs.Counts.{protocol_of, own_of}
use Rattle.qm_instr.specs.Programs.{Programs, rank_of}
use Rattle.qm_check.specs.declared.Fault.{Fault}
use Rattle.qm_check.specs.declared.Fault.TheVariants as fault
use Rattle.qm_check.specs.declared.Uses.{Uses}
use Rattle.qm_check.specs.declared.Uses.TheVariants.{Nothing, Fills, Keeps, Empties, Joins}
use Rattle.qm_check.specs.Checks.{Site, AllRanks, AtInstr, OnLane, OnTape, fault_at, IsFirstFault, capacity_of, most_capacity}
use Rattle.qm_check.specs.Messages.{is_back, lane_sends, lane_receives, match_fault}
use Rattle.qm_check.specs.Operands.{partner_of, uses_of}
use Rattle.qm_check.specs.Slots.{partner_fault, slot_fault, fault_if_any, full_after}
use Rattle.qm_expand.specs.declared.ReadError.{ReadError}
use Rattle.qm_expand.specs.declared.ReadError.TheVariants as error
use Rattle.qm_print.specs.declared.FaultLine.{FaultLine}
use Rattle.qm_print.specs.declared.FaultLine.TheVariants as line
use Rattle.qm_print.specs.FaultText.{NamesNoAnswers}
use Rattle.qm_tool.specs.Due.{reading_fault, IsRefusedFor, Misread, Faulty}

-- the fault, if there is one, names no lane of answers
abbrev Names : Option Fault → Type 0
Names None = Unit {0}
Names (Some f) = NamesNoAnswers (line.Unready f)

-- ---- at each place
if_any : (b : Bool) (f : Fault) → NamesNoAnswers (line.Unready f) → Names (if b then Some f else None)
if_any true f h = h
if_any false f h = tt

if_not : (b : Bool) (f : Fault) → NamesNoAnswers (line.Unready f) → Names (if b then None else Some f)
if_not true f h = tt
if_not false f h = h

either : (a b : Option Fault) → Names a → Names b → Names (option_or a b)
either None b h k = k
either (Some f) b h k = h

at_partner : (n r k : ℕ) (o : Option ℕ) → Names (partner_fault n r k o)
at_partner n r k None = tt
at_partner n r k (Some other) = by_test (nat_lt other n)
  where
    by_test : (there : Bool) → Names (if there then (if other == r then Some (fault.SelfMessage r k) else None) else Some (fault.BadRank r k))
    by_test true = if_any (other == r) (fault.SelfMessage r k) tt
    by_test false = tt

at_slots : (r k : ℕ) (full : ℕ → Bool) (u : Uses) → Names (slot_fault r k full u)
at_slots r k full Nothing = tt
at_slots r k full (Fills q) = if_any (full q) (fault.SlotFull r k) tt
at_slots r k full (Keeps q) = if_not (full q) (fault.SlotEmpty r k) tt
at_slots r k full (Empties q) = if_not (full q) (fault.SlotEmpty r k) tt
at_slots r k full (Joins c t) = by_test (c == t)
  where
    by_test : (same : Bool) → Names (if same then Some (fault.SameSlot r k) else (if full c && full t then None else Some (fault.SlotEmpty r k)))
    by_test true = tt
    by_test false = if_not (full c && full t) (fault.SlotEmpty r k) tt

at_instruction : (n r k : ℕ) (full : ℕ → Bool) (o : Option Instr) → Names (fault_if_any n r k full o)
at_instruction n r k full None = tt
at_instruction n r k full (Some i) = either (partner_fault n r k (partner_of i)) (slot_fault r k full (uses_of i)) (at_partner n r k (partner_of i)) (at_slots r k full (uses_of i))

not_back : (k : Kind) → is_back k ≡ false → k ≢ kind.Back
not_back k e is = let back : is_back k ≡ true = ap is_back is in cc

at_lane : (a : Lane) (sends receives : ℕ) → Names (match_fault a sends receives)
at_lane a sends receives = by_tests (is_back a.kind) (sends == receives) refl
  where
    by_tests : (back same : Bool) → is_back a.kind ≡ back → Names (if back || same then None else Some (fault.UnmatchedLane a sends receives))
    by_tests true same e = tt
    by_tests false true e = tt
    by_tests false false e = not_back a.kind e

at_place : (p : Programs) (a : Site) → Names (fault_at p a)
at_place p AllRanks = if_any (nat_lt (most_capacity p.version) (capacity_of p)) (fault.TooWide (capacity_of p)) tt
at_place p (AtInstr r k) = let is = (rank_of p r).instructions in at_instruction (length p.ranks) r k (full_after (take k is)) (slice_get is k)
at_place p (OnLane a) = at_lane a (lane_sends p a) (lane_receives p a)
at_place p (OnTape r true) = let needs = sum_by own_of (rank_of p r).instructions in let has = length (rank_of p r).own in if_not (needs == has) (fault.TapeLength r true needs has) tt
at_place p (OnTape r false) = let needs = sum_by protocol_of (rank_of p r).instructions in let has = length (rank_of p r).protocol in if_not (needs == has) (fault.TapeLength r false needs has) tt

-- ---- so the first fault of programs names none, and no other line of a refusal names a lane
first_fault-names : (p : Programs) (f : Fault) → IsFirstFault p f → NamesNoAnswers (line.Unready f)
first_fault-names p f h = subst Names h.1 (at_place p h.0)

misread-names : (e : ReadError) (f : FaultLine) → reading_fault e ≡ Some f → NamesNoAnswers f
misread-names (error.BadByte n) f is = subst NamesNoAnswers (same_Some _ _ is) tt
misread-names (error.Unexpected n) f is = subst NamesNoAnswers (same_Some _ _ is) tt
misread-names (error.NumberTooLarge n) f is = subst NamesNoAnswers (same_Some _ _ is) tt
misread-names (error.TooDeep n) f is = subst NamesNoAnswers (same_Some _ _ is) tt
misread-names (error.Unended n) f is = subst NamesNoAnswers (same_Some _ _ is) tt
misread-names (error.UnknownName n) f is = subst NamesNoAnswers (same_Some _ _ is) tt
misread-names (error.OutOfRange n) f is = subst NamesNoAnswers (same_Some _ _ is) tt
misread-names (error.TooMany n) f is = subst NamesNoAnswers (same_Some _ _ is) tt
misread-names error.Memory f is = absurd (none-some f is)

pub IsRefusedFor-names : (text : List ℕ) (f : FaultLine) → IsRefusedFor text f → NamesNoAnswers f
IsRefusedFor-names text f (Misread e _ a is) = misread-names e f is
IsRefusedFor-names text _ (Faulty p x a h) = first_fault-names p x h
