-- Which event a rank has next, where it may happen, where it is refused, and the state after it
use Rattle.std.specs.Prelude.{◌≡◌, ◌≢◌, ℕ, ◌+◌, nat_eq, nat_lt, Bool, true, false, ◌&&◌, ◌||◌, ◌⊎◌, if◌then◌else◌, List, [], ◌∷◌, ◌++◌, Option, Some, None, is_some, slice_get, length}
use Rattle.qm_zomega.specs.Numbers.{zero_number}
use Rattle.qm_denot.specs.declared.Letter.{Letter}
use Rattle.qm_denot.specs.Wires.{Wires, has}
use Rattle.qm_denot.specs.Circuits.{Amplitudes, Circuit, amp}
use Rattle.qm_denot.specs.Stores.{IsReducedForm, LeavesRange}
use Rattle.qm_instr.specs.declared.Instr.{Instr}
use Rattle.qm_instr.specs.declared.Lane.{Lane}
use Rattle.qm_instr.specs.Counts.{events_of}
use Rattle.qm_instr.specs.Lanes.{lane_received, is_on}
use Rattle.qm_instr.specs.Programs.{Programs, rank_of}
use Rattle.qm_proto.specs.declared.Cause.{Cause}
use Rattle.qm_proto.specs.declared.Cause.TheVariants as cause
use Rattle.qm_proto.specs.declared.Rule.{Rule}
use Rattle.qm_proto.specs.declared.Rule.TheVariants.{Always, PairRoom, Engaged, Filled}
use Rattle.qm_proto.specs.Model.State.{Part, Tables, State, with_part, front}
use Rattle.qm_proto.specs.Model.Acts.{list_of, after_acts, acts_letters}
use Rattle.qm_proto.specs.declared.Check.{Check}
use Rattle.qm_proto.specs.declared.Check.TheVariants.{Possible, Zero, Equal, Fits}
use Rattle.qm_proto.specs.declared.Row.{Row}
use Rattle.qm_proto.specs.Model.Rows.{current, rows}

-- the line of the table at which rank r stands, where it has an event left
abbrev pub row_in : Programs → Tables → ℕ → Option Instr → Option Row
row_in p t r None = None
row_in p t r (Some i) = slice_get (rows p t r i) (t.parts r).stage

-- the line of rank r's next event, where it has an event left
abbrev pub row_next : Programs → Tables → ℕ → Option Row
row_next p t r = row_in p t r (current p t r)

-- whether rank r has an event left
abbrev pub has_event : Programs → Tables → ℕ → Bool
has_event p t r = is_some (row_next p t r)

-- whether an instruction of rank r, where there is one, is a receive of lane a
abbrev pub receives_on : ℕ → Option Instr → Lane → Bool
receives_on r None a = false
receives_on r (Some i) a = is_on (lane_received r i) a

-- whether lane a is wanted: its receiver stands at the first event of a receive of it, and it is empty
abbrev pub is_wanted : Programs → Tables → Lane → Bool
is_wanted p t a =
    nat_eq (t.parts a.to).stage 0 && (receives_on a.to (current p t a.to) a && nat_eq (length (t.lanes a)) 0)

-- a rank's near halves, and the far halves sent to it that no receive has put into a slot or measured yet
abbrev pub halves : Tables → ℕ → ℕ
halves t r = t.held r

-- whether what the rule asks for is so
abbrev pub holds : Programs → Tables → Rule → Bool
holds p t Always = true
holds p t (PairRoom a) = nat_lt (halves t a.to + 1) (rank_of p a.to).buffer || is_wanted p t a
holds p t (Engaged a) = is_wanted p t a
holds p t (Filled a) = is_some (front t a).bits

-- whether what a line waits for is so; where there is no line, nothing may happen
abbrev pub row_holds : Programs → Tables → Option Row → Bool
row_holds p t None = false
row_holds p t (Some w) = holds p t w.rule

-- whether rank r is enabled: it has an event left, and what the event waits for is so
abbrev pub enabled : Programs → Tables → ℕ → Bool
enabled p t r = row_holds p t (row_next p t r)

-- the test fails on the circuit G
abbrev pub Fails : Circuit → Check → Type 0
Fails g (Possible w m) = (x : Wires) → has x w ≡ m → amp g x ≡ zero_number
Fails g (Zero w) = (x : Wires) × (has x w ≡ true) × (amp g x ≢ zero_number)
Fails g (Equal w v) = (x : Wires) × (has x w ≢ has x v) × (amp g x ≢ zero_number)
Fails g (Fits w) = (u : Amplitudes) × (k : ℕ) × IsReducedForm u k g × LeavesRange u w

-- the cause for which an event is refused where the test fails
abbrev pub cause_of : Check → Cause
cause_of (Possible w m) = cause.Impossible
cause_of (Zero w) = cause.NotZero
cause_of (Equal w v) = cause.NotEqual
cause_of (Fits w) = cause.Overflow

-- the first test of the list that fails has this cause
abbrev pub FirstFails : Circuit → List Check → Cause → Type 0
FirstFails g [] c = ⊥
FirstFails g (k ∷ ks) c = (Fails g k × (c ≡ cause_of k)) ⊎ ((¬ (Fails g k)) × FirstFails g ks c)

-- no test of the list fails
abbrev pub NoneFails : Circuit → List Check → Type 0
NoneFails g [] = Unit {0}
NoneFails g (k ∷ ks) = (¬ (Fails g k)) × NoneFails g ks

-- the tests of a line, where there is one
abbrev pub row_checks : Option Row → List Check
row_checks None = []
row_checks (Some w) = list_of w.checks

-- the next event of rank r is refused for this cause
abbrev pub IsRefused : Programs → State → ℕ → Cause → Type 0
IsRefused p s r c = FirstFails s.circuit (row_checks (row_next p s.tables r)) c

-- the next event of rank r is not refused
abbrev pub IsAllowed : Programs → State → ℕ → Type 0
IsAllowed p s r = NoneFails s.circuit (row_checks (row_next p s.tables r))

-- a rank's part after an event of an instruction that has n of them
abbrev pub part_after_event : ℕ → Part → Part
part_after_event n x = if nat_lt (x.stage + 1) n then record x { stage = x.stage + 1 } else record x { at = x.at + 1; stage = 0 }

-- how many events an instruction has, where there is one
abbrev pub events_at : Option Instr → ℕ
events_at None = 0
events_at (Some i) = events_of i

-- the tables after the acts of a line, with rank r past the event; its instruction has n of them
abbrev pub row_tables : ℕ → ℕ → Option Row → Tables → Tables
row_tables n r None t = t
row_tables n r (Some w) t = let u = after_acts r (list_of w.acts) t in with_part u r (part_after_event n (u.parts r))

-- the letters that the acts of a line do
abbrev pub row_letters : ℕ → Option Row → Tables → List Letter
row_letters r None t = []
row_letters r (Some w) t = acts_letters r (list_of w.acts) t

-- the tables after the next event of rank r
abbrev pub next_tables : Programs → Tables → ℕ → Tables
next_tables p t r = row_tables (events_at (current p t r)) r (row_next p t r) t

-- the letters of the next event of rank r
abbrev pub next_letters : Programs → Tables → ℕ → List Letter
next_letters p t r = row_letters r (row_next p t r) t

-- the state after the next event of rank r
abbrev pub next : Programs → State → ℕ → State
next p s r = record { tables = next_tables p s.tables r; circuit = s.circuit ++ next_letters p s.tables r }
