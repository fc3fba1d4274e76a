-- What the messages in progress owe: letters that stand between the ideal machine's circuit and that of the letters done
use Rattle.std.specs.Prelude.{◌≡◌, ℕ, ◌-◌, nat_eq, nat_lt, Bool, true, false, ◌&&◌, if◌then◌else◌, List, [], ◌∷◌, ◌++◌, Option, Some, None, is_some, slice_index_or, Contains}
use Rattle.qm_denot.specs.declared.Wire.{Wire}
use Rattle.qm_denot.specs.declared.Letter.{Letter}
use Rattle.qm_denot.specs.declared.Letter.TheVariants.{Phase, Flip, Had, Cx}
use Rattle.qm_denot.specs.Protocols.{letter_if}
use Rattle.qm_instr.specs.declared.Instr.{Instr}
use Rattle.qm_instr.specs.declared.Instr.TheVariants as instr
use Rattle.qm_instr.specs.declared.Kind.{Kind}
use Rattle.qm_instr.specs.declared.Kind.TheVariants as kind
use Rattle.qm_instr.specs.declared.Lane.{Lane}
use Rattle.qm_instr.specs.Lanes.{lane}
use Rattle.qm_instr.specs.Programs.{Programs}
use Rattle.qm_denot.specs.declared.Parcel.{Parcel}
use Rattle.qm_proto.specs.Model.State.{Part, Tables, wire_in, wire_of, first_bit, second_bit}
use Rattle.qm_proto.specs.Model.Rows.{current, source_wire}
use Rattle.qm_proto.specs.Model.Places.{Place, InSlot, NearOf, FarOf, IsAt}

-- ---- messages
-- a message's name, which it keeps from its first event to its last
pub data Message : Type 0 where
  ByPair : (rank made : ℕ) → Message  -- a copy, a move or a reach: the number of its pair among the wires of its sender
  BackTo : (source : ℕ) → Message  -- an undo: the rank that takes its copy back
  NoMessage : Message  -- of an event outside messages

-- whether two messages are the same
unfoldable pub is_message : Message → Message → Bool
is_message (ByPair a k) (ByPair b j) = nat_eq a b && nat_eq k j
is_message (BackTo a) (BackTo b) = nat_eq a b
is_message NoMessage NoMessage = true
is_message _ _ = false

-- the message of a wire's pair
abbrev pub pair_of : Wire → Message
pair_of w = ByPair w.rank w.made

-- the message of an instruction of rank r: a send's by the number of its pair, and a receive's by the half that it takes from its lane
abbrev pub message_by : ℕ → ℕ → (Lane → Wire) → Instr → Option Message
message_by r made half (instr.Alloc q) = None
message_by r made half (instr.Free q) = None
message_by r made half (instr.Do g) = None
message_by r made half (instr.Measure q b) = None
message_by r made half (instr.Set b v) = None
message_by r made half (instr.Xor b c) = None
message_by r made half (instr.When b g) = None
message_by r made half (instr.SendBit b to tag) = None
message_by r made half (instr.RecvBit b from tag) = None
message_by r made half (instr.CopyTo q to tag) = Some (ByPair r made)
message_by r made half (instr.CopyFrom q from tag) = Some (pair_of (half (lane from r kind.Copy tag)))
message_by r made half (instr.UndoTo q to tag) = Some (BackTo to)
message_by r made half (instr.UndoFrom q from tag) = Some (BackTo r)
message_by r made half (instr.MoveTo q to tag) = Some (ByPair r made)
message_by r made half (instr.MoveFrom q from tag) = Some (pair_of (half (lane from r kind.Move tag)))
message_by r made half (instr.ReachTo q to tag) = Some (ByPair r made)
message_by r made half (instr.ReachFrom q from tag) = Some (pair_of (half (lane from r kind.Reach tag)))

-- the message of an instruction that rank r is in the middle of
abbrev pub message_of : ℕ → Part → Instr → Option Message
message_of r v i = message_by r (v.made - 1) (λ a. wire_of v.taken) i

-- ---- debts
-- the halves of the pair that rank r counted last
abbrev pub near_counted : ℕ → Part → Wire
near_counted r v = record { rank = r; made = v.made - 1; near = true }

abbrev pub far_counted : ℕ → Part → Wire
far_counted r v = record { rank = r; made = v.made - 1; near = false }

-- a pair on blank wires as gates, and with the sender's controlled-not
abbrev pub pair_letters : Wire → Wire → List Letter
pair_letters e f = Had f ∷ Cx f e ∷ []

abbrev pub crossed_letters : Wire → Wire → Wire → List Letter
crossed_letters q e f = Had f ∷ Cx f e ∷ Cx q e ∷ []

-- the table of the debts: for each instruction what its rank owes after none, one, two .. of its events, and None where it owes nothing
-- or a parcel or another rank owes it. The rank's part is v, w gives the wires in its slots, and lent the wire that another rank lends.
-- (Laid beside the table of the events, each line is what has been done and isn't in the ideal circuit, or is in the ideal circuit and
-- isn't done)
abbrev pub debts : ℕ → Part → (ℕ → Wire) → (ℕ → Wire) → Instr → List (Option (List Letter))
debts r v w lent (instr.Alloc q) = []
debts r v w lent (instr.Free q) = []
debts r v w lent (instr.Do g) = []
debts r v w lent (instr.Measure q b) = []
debts r v w lent (instr.Set b x) = []
debts r v w lent (instr.Xor b c) = []
debts r v w lent (instr.When b g) = []
debts r v w lent (instr.SendBit b to tag) = []
debts r v w lent (instr.RecvBit b from tag) = []
debts r v w lent (instr.CopyTo q to tag) =
    let e = near_counted r v in
    let f = far_counted r v in
    None ∷ Some (pair_letters e f) ∷ Some (crossed_letters (w q) e f) ∷ []
debts r v w lent (instr.CopyFrom q from tag) = None ∷ Some (letter_if (first_bit v.taken) (Flip (wire_of v.taken))) ∷ []
debts r v w lent (instr.UndoTo q to tag) = None ∷ Some (Had (w q) ∷ []) ∷ []
debts r v w lent (instr.UndoFrom q from tag) = None ∷ Some (letter_if (first_bit v.taken) (Phase 4 (w q))) ∷ []
debts r v w lent (instr.MoveTo q to tag) =
    let e = near_counted r v in
    let f = far_counted r v in
    None
    ∷ Some (pair_letters e f)
    ∷ Some (crossed_letters (w q) e f)
    ∷ Some (crossed_letters (w q) e f ++ Had (w q) ∷ [])
    ∷ Some (Cx (w q) f ∷ (letter_if v.first (Flip f) ++ Had (w q) ∷ []))
    ∷ []
debts r v w lent (instr.MoveFrom q from tag) =
    let f = wire_of v.taken in
    None
    ∷ Some (letter_if (second_bit v.taken) (Phase 4 f) ++ letter_if (first_bit v.taken) (Flip f))
    ∷ Some (letter_if (second_bit v.taken) (Phase 4 f))
    ∷ []
debts r v w lent (instr.ReachTo q to tag) =
    let e = near_counted r v in
    let f = far_counted r v in
    None
    ∷ Some (pair_letters e f)
    ∷ Some (crossed_letters (w q) e f)
    ∷ None
    ∷ Some (letter_if (first_bit v.taken) (Phase 4 (w q)))
    ∷ []
debts r v w lent (instr.ReachFrom q from tag) =
    let f = wire_of v.taken in
    None
    ∷ Some (Cx (lent from) f ∷ letter_if (first_bit v.taken) (Flip f))
    ∷ Some (Cx (lent from) f ∷ [])
    ∷ Some (Cx (lent from) f ∷ Cx f (w q) ∷ [])
    ∷ Some (Cx (lent from) f ∷ Cx f (w q) ∷ Had f ∷ [])
    ∷ []

-- a message, and the letters that it owes
pub record Debt : Type 0 where
  pub message : Message
  pub letters : List Letter

abbrev pub debt : Message → List Letter → Debt
debt k ls = record { message = k; letters = ls }

abbrev pub debt_if : Option Message → Option (List Letter) → Option Debt
debt_if (Some k) (Some ls) = Some (debt k ls)
debt_if _ _ = None

-- what rank r owes, which has done so many events of the instruction at which it stands
abbrev pub debt_in : ℕ → Part → (ℕ → Wire) → (ℕ → Wire) → Option Instr → ℕ → Option Debt
debt_in r v w lent None stage = None
debt_in r v w lent (Some i) stage = debt_if (message_of r v i) (slice_index_or (debts r v w lent i) stage None)

abbrev pub rank_debt : Programs → Tables → ℕ → Option Debt
rank_debt p t r = let v = t.parts r in debt_in r v (wire_in t r) (source_wire p t) (current p t r) v.stage

-- what a parcel of lane a owes once it has its bits
abbrev pub parcel_letters : Programs → Tables → Lane → Kind → Parcel → Option Debt
parcel_letters p t a kind.Bit x = None
parcel_letters p t a kind.Copy x = Some (debt (pair_of (wire_of x)) (letter_if (first_bit x) (Flip (wire_of x))))
parcel_letters p t a kind.Move x =
    let f = wire_of x in
    Some (record { message = pair_of f; letters = letter_if (second_bit x) (Phase 4 f) ++ letter_if (first_bit x) (Flip f) })
parcel_letters p t a kind.Reach x =
    let f = wire_of x in
    Some (record { message = pair_of f; letters = Cx (source_wire p t a.from) f ∷ letter_if (first_bit x) (Flip f) })
parcel_letters p t a kind.Back x =
    Some (record {
      message = ByPair a.to ((t.parts a.to).made - 1);
      letters = letter_if (first_bit x) (Phase 4 (source_wire p t a.to));
    })
parcel_letters p t a kind.Undo x =
    Some (record { message = BackTo a.to; letters = letter_if (first_bit x) (Phase 4 (source_wire p t a.to)) })

abbrev pub parcel_debt : Programs → Tables → Lane → Parcel → Option Debt
parcel_debt p t a x = if is_some x.bits then parcel_letters p t a a.kind x else None

-- who owes the letters of a message
pub data Holder : Type 0 where
  AtRank : (r : ℕ) → Holder  -- a rank in the middle of the message
  OnLane : (a : Lane) (x : Parcel) → Holder  -- a parcel on its way

abbrev pub Owes : Programs → Tables → Holder → Debt → Type 0
Owes p t (AtRank r) d = rank_debt p t r ≡ Some d
Owes p t (OnLane a x) d = Contains (t.lanes a) x × (parcel_debt p t a x ≡ Some d)

-- ---- custody: in which message a wire is engaged, by its place
-- the message for which a rank's slots are set aside: the one in the middle of which it is, or the copy that it stands ready to take back
abbrev pub slots_message_in : ℕ → Part → Option Instr → Option Message
slots_message_in r v None = None
slots_message_in r v (Some (instr.UndoFrom q from tag)) = Some (BackTo r)
slots_message_in r v (Some i) = if nat_lt 0 v.stage then message_of r v i else None

abbrev pub slots_message : Programs → Tables → ℕ → Option Message
slots_message p t r = slots_message_in r (t.parts r) (current p t r)

abbrev pub custody_at : Programs → Tables → Wire → Place → Option Message
custody_at p t w (InSlot r q) = slots_message p t r
custody_at p t w (NearOf r) = Some (pair_of w)
custody_at p t w (FarOf r) = Some (pair_of w)

-- the wire is in the custody of the message
abbrev pub IsInCustody : Programs → Tables → Wire → Message → Type 0
IsInCustody p t w k = (o : Place) × IsAt t w o × (custody_at p t w o ≡ Some k)
