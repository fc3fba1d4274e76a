-- What the next event of a rank takes is there: wires in slots, halves, parcels, outcomes, the ranks that it names, and places on lanes
use Rattle.std.specs.Prelude.{◌≡◌, ◌≢◌, ℕ, ◌<◌, true, List, [], ◌∷◌, All, Option, Some, None, is_some, length}
use Rattle.qm_denot.specs.Wires.{has}
use Rattle.qm_denot.specs.Parcels.{IsFillable}
use Rattle.qm_limits.specs.declared.TheConstants.{BITS}
use Rattle.qm_instr.specs.declared.Instr.{Instr}
use Rattle.qm_instr.specs.declared.Instr.TheVariants as instr
use Rattle.qm_instr.specs.Operands.{slots_of}
use Rattle.qm_instr.specs.Programs.{Programs}
use Rattle.qm_check.specs.Messages.{lane_sends}
use Rattle.qm_check.specs.Operands.{partner_of}
use Rattle.qm_proto.specs.declared.Act.{Act}
use Rattle.qm_proto.specs.declared.Act.TheVariants.{Fresh, Twin, SlotOut, NearOut, FarOut, Settle, Posts, Fills, Receives, OwnUsed, ProtocolUsed, BitSet}
use Rattle.qm_proto.specs.Model.Acts.{after_act}
use Rattle.qm_proto.specs.Model.Rows.{current}
use Rattle.qm_proto.specs.Model.Runs.{row_next, enabled}
use Rattle.qm_proto.specs.Model.Schedules.{replay}
use Rattle.qm_proto.specs.Model.State.{Tables, near_last, front, wire_of}
use Rattle.qm_safety.specs.Safety.Legal.{IsLegalRun}
use Rattle.qm_safety.specs.Tables.Lines.{acts_of}

-- the slot that an instruction finds empty, and fills at its first event
abbrev pub slot_filled : Instr → Option ℕ
slot_filled (instr.Alloc q) = Some q
slot_filled (instr.Free q) = None
slot_filled (instr.Do g) = None
slot_filled (instr.Measure q b) = None
slot_filled (instr.Set b v) = None
slot_filled (instr.Xor b c) = None
slot_filled (instr.When b g) = None
slot_filled (instr.SendBit b to tag) = None
slot_filled (instr.RecvBit b from tag) = None
slot_filled (instr.CopyTo q to tag) = None
slot_filled (instr.CopyFrom q from tag) = Some q
slot_filled (instr.UndoTo q to tag) = None
slot_filled (instr.UndoFrom q from tag) = None
slot_filled (instr.MoveTo q to tag) = None
slot_filled (instr.MoveFrom q from tag) = Some q
slot_filled (instr.ReachTo q to tag) = None
slot_filled (instr.ReachFrom q from tag) = None

-- rank r's slots are as its instruction needs them: full, before each of its events, but for the one that it fills, which is empty before
-- its first event and then has the wire that the rank took
pub record HasSlots (p : Programs) (t : Tables) (r : ℕ) : Type 0 where
  pub full : (i : Instr) → current p t r ≡ Some i → slot_filled i ≡ None → All (λ q. is_some (t.slots r q) ≡ true) (slots_of i)
  pub empty : (i : Instr) (q : ℕ) → current p t r ≡ Some i → slot_filled i ≡ Some q → (t.parts r).stage ≡ 0 → t.slots r q ≡ None
  pub taken : (i : Instr) (q : ℕ) → current p t r ≡ Some i → slot_filled i ≡ Some q → 0 < (t.parts r).stage
      → t.slots r q ≡ Some (wire_of (t.parts r).taken)

-- the rank that rank r's instruction names is another one, and there is one
abbrev pub NamesRank : Programs → Tables → ℕ → Type 0
NamesRank p t r = (i : Instr) (d : ℕ) → current p t r ≡ Some i → partner_of i ≡ Some d → (d < length p.ranks) × (d ≢ r)

-- what an act of rank r takes is there, and what it puts somewhere finds room
abbrev pub IsThere : Programs → ℕ → Act → Tables → Type 0
IsThere p r (Fresh q) t = t.slots r q ≡ None
IsThere p r (Twin to) t = to < length p.ranks
IsThere p r (SlotOut q m) t = is_some (t.slots r q) ≡ true
IsThere p r (NearOut m) t = has (t.near r) (near_last t r) ≡ true
IsThere p r (FarOut f m) t = has (t.far r) f ≡ true
IsThere p r (Settle f q) t = (has (t.far r) f ≡ true) × (t.slots r q ≡ None)
IsThere p r (Posts a x) t = length (t.lanes a) < lane_sends p a
IsThere p r (Fills a b) t = IsFillable (t.lanes a)
IsThere p r (Receives a) t = is_some (front t a).bits ≡ true
IsThere p r OwnUsed t = 0 < length (t.parts r).own
IsThere p r ProtocolUsed t = 0 < length (t.parts r).protocol
IsThere p r (BitSet b v) t = b < BITS
IsThere p r _ t = Unit {0}

-- so for each act of a list, when its turn comes
abbrev pub AllThere : Programs → ℕ → List Act → Tables → Type 0
AllThere p r [] t = Unit {0}
AllThere p r (a ∷ acts) t = IsThere p r a t × AllThere p r acts (after_act r a t)

-- all that rank r's next event needs
pub record FindsAll (p : Programs) (t : Tables) (r : ℕ) : Type 0 where
  pub slots : HasSlots p t r
  pub partner : NamesRank p t r
  pub acts : enabled p t r ≡ true → AllThere p r (acts_of (row_next p t r)) t

-- in every state of every legal schedule each rank finds all that its next event needs
abbrev pub OperandsLaw : Type 0
OperandsLaw =
    (p : Programs) (schedule : List ℕ) → IsLegalRun p schedule → (r : ℕ) → r < length p.ranks → FindsAll p (replay p schedule).tables r
