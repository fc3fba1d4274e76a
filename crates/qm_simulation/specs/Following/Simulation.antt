-- What a schedule has begun, what it still has to correct, and the theorem that ties every legal schedule to the ideal run
use Rattle.std.specs.Prelude.{◌≡◌, ◌≢◌, ℕ, ◌+◌, nat_eq, nat_lt, Bool, true, false, not, ◌&&◌, ◌||◌, if◌then◌else◌, List, [], ◌∷◌, ◌++◌, Option, Some, None, is_some, unwrap_or, filter, fold, Contains, ◌⊎◌}
use Rattle.qm_denot.specs.declared.Wire.{Wire}
use Rattle.qm_denot.specs.declared.Letter.{Letter}
use Rattle.qm_denot.specs.declared.Letter.TheVariants.{Phase, Flip}
use Rattle.qm_denot.specs.Circuits.{IsEqualUpTo}
use Rattle.qm_denot.specs.Protocols.{letter_if}
use Rattle.qm_denot.specs.Weights.{operands}
use Rattle.qm_denot.specs.Tags.{Tagged, letters_of, tagged, without_key}
use Rattle.qm_instr.specs.declared.Instr.{Instr}
use Rattle.qm_instr.specs.declared.Instr.TheVariants as instr
use Rattle.qm_instr.specs.Programs.{Programs, IsInRange}
use Rattle.qm_check.specs.Checks.{IsReady}
use Rattle.qm_proto.specs.declared.Event.{Event}
use Rattle.qm_proto.specs.declared.Event.TheVariants as event
use Rattle.qm_proto.specs.Model.State.{Tables, State, front, wire_of, protocol_next}
use Rattle.qm_proto.specs.declared.Check.{Check}
use Rattle.qm_proto.specs.declared.Check.TheVariants.{Possible, Zero, Equal, Fits}
use Rattle.qm_proto.specs.declared.Row.{Row}
use Rattle.qm_proto.specs.Model.Rows.{current, source_wire}
use Rattle.qm_proto.specs.Model.Runs.{row_next, row_checks, enabled, next, next_letters}
use Rattle.qm_proto.specs.Model.Schedules.{state_at_start, replay, IsLegal}
use Rattle.qm_proto.specs.Model.Ideal.{ideal_replay, IsIdealRun}
use Rattle.qm_simulation.specs.Following.Deciding.{events_before, before_deciding, ideal_of}
use Rattle.qm_simulation.specs.Following.Debts.{Message, NoMessage, is_message, message_by, message_of, far_counted}

-- ---- events of messages
-- the message, where there is one
abbrev pub message_from : Option Message → Message
message_from None = NoMessage
message_from (Some k) = k

-- the message of a rank's first event of an instruction: a send's is named by the wire that it is about to count, a receive's by the
-- half at the front of its lane
abbrev pub message_begun : Tables → ℕ → Instr → Option Message
message_begun t r i = message_by r (t.parts r).made (λ a. wire_of (front t a)) i

abbrev pub event_message : Tables → ℕ → Option Instr → Message
event_message t r None = NoMessage
event_message t r (Some i) = message_from (if nat_eq (t.parts r).stage 0 then message_begun t r i else message_of r (t.parts r) i)

-- how many protocol measurements a message has by its deciding Post, where that is the deciding event of the instruction: of a copy's, a
-- move's or an undo's sender, or of a reach's receiver
abbrev pub settled_by : Instr → Option ℕ
settled_by (instr.Alloc q) = None
settled_by (instr.Free q) = None
settled_by (instr.Do g) = None
settled_by (instr.Measure q b) = None
settled_by (instr.Set b v) = None
settled_by (instr.Xor b c) = None
settled_by (instr.When b g) = None
settled_by (instr.SendBit b to tag) = None
settled_by (instr.RecvBit b from tag) = None
settled_by (instr.CopyTo q to tag) = Some 1
settled_by (instr.CopyFrom q from tag) = None
settled_by (instr.UndoTo q to tag) = Some 1
settled_by (instr.UndoFrom q from tag) = None
settled_by (instr.MoveTo q to tag) = Some 2
settled_by (instr.MoveFrom q from tag) = None
settled_by (instr.ReachTo q to tag) = None
settled_by (instr.ReachFrom q from tag) = Some 2

-- a message's deciding Post is the event of this stage
abbrev pub settles : Option Instr → ℕ → Bool
settles None stage = false
settles (Some i) stage = is_some (settled_by i) && nat_eq stage (events_before i)

-- how many protocol measurements a message has by then
abbrev pub outcomes_of : Option Instr → ℕ
outcomes_of None = 1
outcomes_of (Some i) = unwrap_or (settled_by i) 1

-- the event comes before its message's deciding Post, since it comes before the deciding event of its instruction
abbrev pub is_early : Option Instr → ℕ → Bool
is_early o stage = nat_lt stage (before_deciding o)

-- the corrections that a deciding Post of rank r leaves due, the last one to be done first
abbrev pub corrections : Programs → Tables → ℕ → Option Instr → List Letter
corrections p t r None = []
corrections p t r (Some (instr.Alloc q)) = []
corrections p t r (Some (instr.Free q)) = []
corrections p t r (Some (instr.Do g)) = []
corrections p t r (Some (instr.Measure q b)) = []
corrections p t r (Some (instr.Set b v)) = []
corrections p t r (Some (instr.Xor b c)) = []
corrections p t r (Some (instr.When b g)) = []
corrections p t r (Some (instr.SendBit b to tag)) = []
corrections p t r (Some (instr.RecvBit b from tag)) = []
corrections p t r (Some (instr.CopyTo q to tag)) = letter_if (protocol_next t r) (Flip (far_counted r (t.parts r)))
corrections p t r (Some (instr.CopyFrom q from tag)) = []
corrections p t r (Some (instr.UndoTo q to tag)) = letter_if (protocol_next t r) (Phase 4 (source_wire p t to))
corrections p t r (Some (instr.UndoFrom q from tag)) = []
corrections p t r (Some (instr.MoveTo q to tag)) =
    letter_if (protocol_next t r) (Phase 4 (far_counted r (t.parts r))) ++ letter_if (t.parts r).first (Flip (far_counted r (t.parts r)))
corrections p t r (Some (instr.MoveFrom q from tag)) = []
corrections p t r (Some (instr.ReachTo q to tag)) = []
corrections p t r (Some (instr.ReachFrom q from tag)) = letter_if (protocol_next t r) (Phase 4 (source_wire p t from))

-- whether a correction is still due after an event: FixX does the Flip, and FixZ the change of sign
abbrev pub is_due_after : Event → Letter → Bool
is_due_after event.FixX (Flip w) = false
is_due_after event.FixZ (Phase k w) = false
is_due_after _ _ = true

-- what is left of the corrections after an event of a message
abbrev pub due_after : Message → Option Row → Tagged Message → Tagged Message
due_after k None ds = ds
due_after k (Some w) ds = filter (λ d. not (is_message k d.0) || is_due_after w.event d.1) ds

-- ---- along a schedule
-- the state, the letters begun and the corrections due with their messages, and how many outcomes of decided messages there were
pub record Progress : Type 0 where
  pub state : State
  pub begun : Tagged Message
  pub pending : Tagged Message
  pub settled : ℕ

abbrev pub progress_next : Programs → Progress → ℕ → Progress
progress_next p x r =
    let t = x.state.tables in
    let i = current p t r in
    let stage = (t.parts r).stage in
    let k = event_message t r i in
    record {
      state = next p x.state r;
      begun =
          if settles i stage then without_key is_message k x.begun
          else (if is_early i stage then x.begun ++ tagged k (next_letters p t r) else x.begun);
      pending =
          if settles i stage then x.pending ++ tagged k (corrections p t r i)
          else due_after k (row_next p t r) x.pending;
      settled = if settles i stage then x.settled + outcomes_of i else x.settled;
    }

unfoldable pub progress : Programs → List ℕ → Progress
progress p schedule =
    fold (progress_next p) (record { state = state_at_start p; begun = []; pending = []; settled = 0 }) schedule

-- ---- the theorem
-- the wires at which a test looks
abbrev pub check_wires : Check → List Wire
check_wires (Possible w m) = w ∷ []
check_wires (Zero w) = w ∷ []
check_wires (Equal w v) = w ∷ v ∷ []
check_wires (Fits w) = w ∷ []

-- the next event of rank r has the wire as an operand, or looks at it in a test
abbrev pub Touches : Programs → Tables → ℕ → Wire → Type 0
Touches p t r w =
    ((l : Letter) × Contains (next_letters p t r) l × Contains (operands l) w)
    ⊎ ((k : Check) × Contains (row_checks (row_next p t r)) k × Contains (check_wires k) w)

-- a rank that is in the middle of no instruction is the same in both machines
pub record IsSameRank (p : Programs) (schedule : List ℕ) (r : ℕ) : Type 0 where
  pub at : (((ideal_replay p (ideal_of p schedule)).tables.parts r).at ≡ ((replay p schedule).tables.parts r).at)
  pub bits : (((ideal_replay p (ideal_of p schedule)).tables.parts r).bits ≡ ((replay p schedule).tables.parts r).bits)
  pub own : (((ideal_replay p (ideal_of p schedule)).tables.parts r).own ≡ ((replay p schedule).tables.parts r).own)
  pub slots : (q : ℕ) → (ideal_replay p (ideal_of p schedule)).tables.slots r q ≡ (replay p schedule).tables.slots r q

-- the ideal run of the schedule is one. The circuit of the letters done equals the ideal one, then the letters begun and the corrections
-- due, up to the outcomes settled. Each rank that is in the middle of no instruction is the same in both machines. No wire is in letters
-- of two messages, and no event of another message than a letter's own, where it can happen, touches a wire of that letter
pub record Simulates (p : Programs) (schedule : List ℕ) : Type 0 where
  pub run : IsIdealRun p (ideal_of p schedule)
  pub equal :
      (let x = progress p schedule in
      IsEqualUpTo x.settled (replay p schedule).circuit
      ((ideal_replay p (ideal_of p schedule)).circuit ++ letters_of (x.begun ++ x.pending)))
  pub ranks : (r : ℕ) → (((replay p schedule).tables.parts r).stage ≡ 0) → IsSameRank p schedule r
  pub apart : (a b : Message × Letter) (w : Wire) → (let x = progress p schedule in
      Contains (x.begun ++ x.pending) a → Contains (x.begun ++ x.pending) b
      → Contains (operands a.1) w → Contains (operands b.1) w → a.0 ≡ b.0)
  pub untouched : (a : Message × Letter) (w : Wire) (r : ℕ) → (let x = progress p schedule in let t = (replay p schedule).tables in
      Contains (x.begun ++ x.pending) a → Contains (operands a.1) w → enabled p t r ≡ true
      → event_message t r (current p t r) ≢ a.0 → ¬ Touches p t r w)

abbrev pub SimulationLaw : Type 0
SimulationLaw = (p : Programs) → IsReady p → IsInRange p → (schedule : List ℕ) → IsLegal p schedule → Simulates p schedule
