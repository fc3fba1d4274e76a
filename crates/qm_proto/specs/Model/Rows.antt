-- The table of the events: for each instruction a line for each event, in their order
use Rattle.std.specs.Prelude.{ℕ, Bool, true, false, List, [], ◌∷◌, Option, Some, None, slice_get}
use Rattle.qm_denot.specs.declared.Wire.{Wire}
use Rattle.qm_denot.specs.declared.Letter.{Letter}
use Rattle.qm_denot.specs.declared.Letter.TheVariants.{Phase, Flip, Had, Cx, Cz, Keep}
use Rattle.qm_denot.specs.Protocols.{differing}
use Rattle.qm_instr.specs.declared.OneGate.{OneGate}
use Rattle.qm_instr.specs.declared.OneGate.TheVariants as one
use Rattle.qm_instr.specs.declared.Gate.{Gate}
use Rattle.qm_instr.specs.declared.Gate.TheVariants as gate
use Rattle.qm_instr.specs.declared.Instr.{Instr}
use Rattle.qm_instr.specs.declared.Instr.TheVariants as instr
use Rattle.qm_instr.specs.declared.Kind.TheVariants as kind
use Rattle.qm_instr.specs.Lanes.{lane}
use Rattle.qm_instr.specs.Programs.{Programs, rank_of}
use Rattle.qm_proto.specs.declared.Event.{Event}
use Rattle.qm_proto.specs.declared.Event.TheVariants as event
use Rattle.qm_denot.specs.declared.Parcel.{Parcel}
use Rattle.qm_proto.specs.declared.Check.{Check}
use Rattle.qm_proto.specs.declared.Check.TheVariants.{Possible, Zero, Equal, Fits}
use Rattle.qm_proto.specs.declared.Row.{Row}
use Rattle.qm_proto.specs.declared.Rule.{Rule}
use Rattle.qm_proto.specs.declared.Rule.TheVariants.{Always, PairRoom, Engaged, Filled}
use Rattle.qm_proto.specs.Model.State.{Tables, no_wire, wire_in, bit_of, own_next, protocol_next, far_made, near_last, front, wire_of, first_bit, second_bit}
use Rattle.qm_proto.specs.declared.Act.{Act}
use Rattle.qm_proto.specs.declared.Act.TheVariants.{Fresh, Twin, Apply, SlotOut, NearOut, FarOut, Settle, Posts, Fills, Receives, OwnUsed, ProtocolUsed, FirstKept, BitSet}
use Rattle.qm_proto.specs.declared.Few.{Few}
use Rattle.qm_proto.specs.declared.Few.TheVariants.{Empty, One, Two, Three}

-- a line of the table
abbrev pub row : Event → Rule → Few Check → Few Act → Row
row e rule checks acts = record { event = e; rule = rule; checks = checks; acts = acts }

-- what is there where the bit is one, and nothing else
abbrev pub few_if : {A : Type 0} → Bool → Few A → Few A
few_if true xs = xs
few_if false xs = Empty

-- the act of a letter
abbrev pub letter : Letter → Few Act
letter l = One (Apply l)

-- the letter of a gate on the wire w
abbrev pub one_letter : OneGate → Wire → Letter
one_letter one.X w = Flip w
one_letter one.Z w = Phase 4 w
one_letter one.H w = Had w
one_letter one.S w = Phase 2 w
one_letter one.Sdg w = Phase 6 w
one_letter one.T w = Phase 1 w
one_letter one.Tdg w = Phase 7 w

-- the letter of a gate on slots with these wires
abbrev pub gate_letter : (ℕ → Wire) → Gate → Letter
gate_letter w (gate.One g q) = one_letter g (w q)
gate_letter w (gate.Cx c q) = Cx (w c) (w q)
gate_letter w (gate.Cz c q) = Cz (w c) (w q)

-- the tests of a letter: a `Had` must fit
abbrev pub letter_checks : Letter → Few Check
letter_checks (Had w) = One (Fits w)
letter_checks _ = Empty

-- a parcel that carries the half f, and one that carries bits
abbrev pub half_parcel : Wire → Parcel
half_parcel f = record { wire = Some f; bits = None }

abbrev pub bit_parcel : Bool → Parcel
bit_parcel m = record { wire = None; bits = Some (m, false) }

-- instruction number k of rank r
abbrev pub instr_at : Programs → ℕ → ℕ → Option Instr
instr_at p r k = slice_get (rank_of p r).instructions k

-- the instruction at which rank r stands
abbrev pub current : Programs → Tables → ℕ → Option Instr
current p t r = instr_at p r (t.parts r).at

-- the wire of the slot of an `undofrom` or a `reachto`, of a rank whose slots have these wires
abbrev pub wire_offered : (ℕ → Wire) → Option Instr → Wire
wire_offered w None = no_wire
wire_offered w (Some (instr.Alloc q)) = no_wire
wire_offered w (Some (instr.Free q)) = no_wire
wire_offered w (Some (instr.Do g)) = no_wire
wire_offered w (Some (instr.Measure q b)) = no_wire
wire_offered w (Some (instr.Set b v)) = no_wire
wire_offered w (Some (instr.Xor b c)) = no_wire
wire_offered w (Some (instr.When b g)) = no_wire
wire_offered w (Some (instr.SendBit b to tag)) = no_wire
wire_offered w (Some (instr.RecvBit b from tag)) = no_wire
wire_offered w (Some (instr.CopyTo q to tag)) = no_wire
wire_offered w (Some (instr.CopyFrom q from tag)) = no_wire
wire_offered w (Some (instr.UndoTo q to tag)) = no_wire
wire_offered w (Some (instr.UndoFrom q from tag)) = w q
wire_offered w (Some (instr.MoveTo q to tag)) = no_wire
wire_offered w (Some (instr.MoveFrom q from tag)) = no_wire
wire_offered w (Some (instr.ReachTo q to tag)) = w q
wire_offered w (Some (instr.ReachFrom q from tag)) = no_wire

-- the wire of the `undofrom` at which rank d stands
abbrev pub source_wire : Programs → Tables → ℕ → Wire
source_wire p t d = wire_offered (wire_in t d) (current p t d)

-- rank r's events for an instruction, each as the tables stand before it
abbrev pub rows : Programs → Tables → ℕ → Instr → List Row
rows p t r (instr.Alloc q) = row event.Alloc Always Empty (One (Fresh q)) ∷ []
rows p t r (instr.Do g) =
    let l = gate_letter (wire_in t r) g in
    row event.Gate Always (letter_checks l) (letter l) ∷ []
rows p t r (instr.Free q) = row event.Free Always (One (Zero (wire_in t r q))) (One (SlotOut q false)) ∷ []
rows p t r (instr.Measure q b) =
    let w = wire_in t r q in
    let m = own_next t r in
    row event.Measure Always (One (Possible w m)) (Three OwnUsed (Apply (Keep w m)) (BitSet b m)) ∷ []
rows p t r (instr.Set b v) = row event.Set Always Empty (One (BitSet b v)) ∷ []
rows p t r (instr.Xor b c) = row event.Xor Always Empty (One (BitSet b (differing (bit_of t r b) (bit_of t r c)))) ∷ []
rows p t r (instr.When b g) =
    let l = gate_letter (wire_in t r) g in
    let set = bit_of t r b in
    row event.When Always (few_if set (letter_checks l)) (few_if set (letter l)) ∷ []
rows p t r (instr.SendBit b to tag) = row event.SendBit Always Empty (One (Posts (lane r to kind.Bit tag) (bit_parcel (bit_of t r b)))) ∷ []
rows p t r (instr.RecvBit b from tag) =
    let a = lane from r kind.Bit tag in
    row event.RecvBit (Filled a) Empty (Two (Receives a) (BitSet b (first_bit (front t a)))) ∷ []
rows p t r (instr.CopyTo q to tag) =
    let w = wire_in t r q in
    let e = near_last t r in
    let a = lane r to kind.Copy tag in
    let m = protocol_next t r in
    row event.Pair (PairRoom a) Empty (Two (Twin to) (Posts a (half_parcel (far_made t r))))
    ∷ row event.Cross Always Empty (letter (Cx w e))
    ∷ row event.Post Always Empty (Three ProtocolUsed (NearOut m) (Fills a (m, false)))
    ∷ []
rows p t r (instr.CopyFrom q from tag) =
    let a = lane from r kind.Copy tag in
    let x = (t.parts r).taken in
    row event.Deliver (Filled a) Empty (Two (Receives a) (Settle (wire_of (front t a)) q))
    ∷ row event.FixX Always Empty (few_if (first_bit x) (letter (Flip (wire_of x))))
    ∷ []
rows p t r (instr.UndoTo q to tag) =
    let w = wire_in t r q in
    let a = lane r to kind.Undo tag in
    let m = protocol_next t r in
    row event.Test (Engaged a) (Two (Equal w (source_wire p t to)) (Fits w)) (letter (Had w))
    ∷ row event.Post Always Empty (Three ProtocolUsed (SlotOut q m) (Posts a (bit_parcel m)))
    ∷ []
rows p t r (instr.UndoFrom q from tag) =
    let a = lane from r kind.Undo tag in
    row event.Deliver (Filled a) Empty (One (Receives a))
    ∷ row event.FixZ Always Empty (few_if (first_bit (t.parts r).taken) (letter (Phase 4 (wire_in t r q))))
    ∷ []
rows p t r (instr.MoveTo q to tag) =
    let w = wire_in t r q in
    let e = near_last t r in
    let a = lane r to kind.Move tag in
    let m = protocol_next t r in
    row event.Pair (PairRoom a) Empty (Two (Twin to) (Posts a (half_parcel (far_made t r))))
    ∷ row event.Cross Always Empty (letter (Cx w e))
    ∷ row event.Had Always (One (Fits w)) (letter (Had w))
    ∷ row event.Near Always Empty (Three ProtocolUsed (NearOut m) (FirstKept m))
    ∷ row event.Post Always Empty (Three ProtocolUsed (SlotOut q m) (Fills a ((t.parts r).first, m)))
    ∷ []
rows p t r (instr.MoveFrom q from tag) =
    let a = lane from r kind.Move tag in
    let x = (t.parts r).taken in
    row event.Deliver (Filled a) Empty (Two (Receives a) (Settle (wire_of (front t a)) q))
    ∷ row event.FixX Always Empty (few_if (first_bit x) (letter (Flip (wire_of x))))
    ∷ row event.FixZ Always Empty (few_if (second_bit x) (letter (Phase 4 (wire_of x))))
    ∷ []
rows p t r (instr.ReachTo q to tag) =
    let w = wire_in t r q in
    let e = near_last t r in
    let a = lane r to kind.Reach tag in
    let back = lane to r kind.Back tag in
    let m = protocol_next t r in
    row event.Pair (PairRoom a) Empty (Two (Twin to) (Posts a (half_parcel (far_made t r))))
    ∷ row event.Cross Always Empty (letter (Cx w e))
    ∷ row event.Post Always Empty (Three ProtocolUsed (NearOut m) (Fills a (m, false)))
    ∷ row event.Deliver (Filled back) Empty (One (Receives back))
    ∷ row event.FixZ Always Empty (few_if (first_bit (t.parts r).taken) (letter (Phase 4 w)))
    ∷ []
rows p t r (instr.ReachFrom q from tag) =
    let a = lane from r kind.Reach tag in
    let back = lane r from kind.Back tag in
    let x = (t.parts r).taken in
    let f = wire_of x in
    let m = protocol_next t r in
    row event.Deliver (Filled a) Empty (One (Receives a))
    ∷ row event.FixX Always Empty (few_if (first_bit x) (letter (Flip f)))
    ∷ row event.Cross Always Empty (letter (Cx f (wire_in t r q)))
    ∷ row event.Had Always (One (Fits f)) (letter (Had f))
    ∷ row event.Post Always Empty (Three ProtocolUsed (FarOut f m) (Posts back (bit_parcel m)))
    ∷ []
