-- The ideal run: one machine has all wires, a step is a whole instruction, and a message is a letter
use Rattle.std.specs.Prelude.{◌≡◌, ℕ, ◌+◌, ◌<◌, max, nat_eq, nat_lt, Bool, true, false, ◌&&◌, List, [], ◌∷◌, ◌++◌, Option, Some, None, is_some, unwrap_or, slice_index_or, slice_set, drop, length, fold, replicate, filter}
use Rattle.qm_denot.specs.declared.Wire.{Wire}
use Rattle.qm_denot.specs.declared.Letter.{Letter}
use Rattle.qm_denot.specs.declared.Letter.TheVariants.{Cx, Pair, Keep, Take, Rename}
use Rattle.qm_denot.specs.Circuits.{Circuit}
use Rattle.qm_denot.specs.Protocols.{differing, letter_if}
use Rattle.qm_denot.specs.Stores.{live_after}
use Rattle.qm_denot.specs.WireLists.{lacks}
use Rattle.qm_denot.specs.Weights.{operands, also}
use Rattle.qm_limits.specs.declared.TheConstants.{BITS}
use Rattle.qm_instr.specs.declared.Instr.{Instr}
use Rattle.qm_instr.specs.declared.Instr.TheVariants as instr
use Rattle.qm_instr.specs.declared.Kind.TheVariants as kind
use Rattle.qm_instr.specs.declared.Lane.{Lane}
use Rattle.qm_instr.specs.Lanes.{lane, lane_sent, is_on}
use Rattle.qm_instr.specs.Programs.{Programs, RankProgram, rank_of}
use Rattle.qm_proto.specs.Model.State.{with_at, with_slot, with_lane, no_wire}
use Rattle.qm_proto.specs.Model.Rows.{gate_letter, instr_at, wire_offered}
use Rattle.qm_proto.specs.Model.Runs.{receives_on}

-- what a lane holds
pub data Load : Type 0 where
  Carried : Wire → Load  -- the wire of a copy or a move
  Told : Bool → Load  -- a bit
  Token : Load  -- a sign that a rank has done its part

-- one rank, but for its wires
pub record IdealPart : Type 0 where
  pub at : ℕ  -- the number of its next instruction
  pub made : ℕ  -- how many wires it has counted
  pub bits : List Bool  -- its classical bits
  pub own : List Bool  -- the outcomes left on its own tape

-- the ideal state without its circuit
pub record IdealTables : Type 0 where
  pub parts : ℕ → IdealPart
  pub slots : ℕ → ℕ → Option Wire
  pub lanes : Lane → List Load

-- the state of the ideal machine: its tables, and the circuit of the letters done
pub record IdealState : Type 0 where
  pub tables : IdealTables
  pub circuit : Circuit

-- what a step waits for
pub data IdealRule : Type 0 where
  Always : IdealRule  -- nothing
  Filled : Lane → IdealRule  -- the lane is not empty
  Engaged : Lane → IdealRule  -- the lane's receiver stands at a receive of it, and the lane is empty
  Lent : Lane → Lane → IdealRule  -- the first lane's sender stands at a send on it, and the second lane is empty

-- an act of a step
pub data IdealAct : Type 0 where
  Counts : IdealAct  -- one wire more is counted
  SlotSet : (q : ℕ) → Option Wire → IdealAct  -- slot q is filled with a wire, or emptied
  Puts : Lane → Load → IdealAct  -- a load goes to the end of a lane
  Takes : Lane → IdealAct  -- the front of a lane is taken
  OwnUsed : IdealAct  -- an outcome of the own tape is used
  BitSet : (b : ℕ) (v : Bool) → IdealAct  -- bit b becomes v

-- a line of the table: what the step waits for, its letters, and its acts
pub record IdealRow : Type 0 where
  pub rule : IdealRule
  pub letters : List Letter
  pub acts : List IdealAct

-- a line with this rule, these letters and these acts
abbrev pub ideal_row : IdealRule → List Letter → List IdealAct → IdealRow
ideal_row rule letters acts = record { rule = rule; letters = letters; acts = acts }

-- the wire in slot q of rank r, bit b of rank r, and the wire that rank r's count names
abbrev pub ideal_wire_in : IdealTables → ℕ → ℕ → Wire
ideal_wire_in t r q = unwrap_or (t.slots r q) no_wire

abbrev pub ideal_bit_of : IdealTables → ℕ → ℕ → Bool
ideal_bit_of t r b = slice_index_or (t.parts r).bits b false

abbrev pub ideal_wire_made : IdealTables → ℕ → Wire
ideal_wire_made t r = record { rank = r; made = (t.parts r).made; near = false }

-- the load at the front of a lane, its wire, and its bit
abbrev pub load_at : IdealTables → Lane → Load
load_at t a = slice_index_or (t.lanes a) 0 Token

abbrev pub wire_carried : Load → Wire
wire_carried (Carried w) = w
wire_carried _ = no_wire

abbrev pub bit_told : Load → Bool
bit_told (Told b) = b
bit_told _ = false

-- the instruction at which rank r stands
abbrev pub ideal_current : Programs → IdealTables → ℕ → Option Instr
ideal_current p t r = instr_at p r (t.parts r).at

-- the wire that rank d offers, which stands at an `undofrom` or a `reachto`
abbrev pub ideal_wire_offered : Programs → IdealTables → ℕ → Wire
ideal_wire_offered p t d = wire_offered (ideal_wire_in t d) (ideal_current p t d)

-- a step that takes the front wire of a lane into slot q
abbrev pub take_row : IdealTables → Lane → ℕ → IdealRow
take_row t a q = ideal_row (Filled a) [] (Takes a ∷ SlotSet q (Some (wire_carried (load_at t a))) ∷ [])

-- rank r's step for an instruction
abbrev pub ideal_row_of : Programs → IdealTables → ℕ → Instr → IdealRow
ideal_row_of p t r (instr.Alloc q) = ideal_row Always [] (Counts ∷ SlotSet q (Some (ideal_wire_made t r)) ∷ [])
ideal_row_of p t r (instr.Do g) = ideal_row Always (gate_letter (ideal_wire_in t r) g ∷ []) []
ideal_row_of p t r (instr.Free q) = ideal_row Always (Take (ideal_wire_in t r q) false ∷ []) (SlotSet q None ∷ [])
ideal_row_of p t r (instr.Measure q b) =
    let m = slice_index_or (t.parts r).own 0 false in
    ideal_row Always (Keep (ideal_wire_in t r q) m ∷ []) (OwnUsed ∷ BitSet b m ∷ [])
ideal_row_of p t r (instr.Set b v) = ideal_row Always [] (BitSet b v ∷ [])
ideal_row_of p t r (instr.Xor b c) = ideal_row Always [] (BitSet b (differing (ideal_bit_of t r b) (ideal_bit_of t r c)) ∷ [])
ideal_row_of p t r (instr.When b g) = ideal_row Always (letter_if (ideal_bit_of t r b) (gate_letter (ideal_wire_in t r) g)) []
ideal_row_of p t r (instr.SendBit b to tag) = ideal_row Always [] (Puts (lane r to kind.Bit tag) (Told (ideal_bit_of t r b)) ∷ [])
ideal_row_of p t r (instr.RecvBit b from tag) =
    let a = lane from r kind.Bit tag in
    ideal_row (Filled a) [] (Takes a ∷ BitSet b (bit_told (load_at t a)) ∷ [])
ideal_row_of p t r (instr.CopyTo q to tag) =
    let f = ideal_wire_made t r in
    ideal_row Always (Cx (ideal_wire_in t r q) f ∷ []) (Counts ∷ Puts (lane r to kind.Copy tag) (Carried f) ∷ [])
ideal_row_of p t r (instr.CopyFrom q from tag) = take_row t (lane from r kind.Copy tag) q
ideal_row_of p t r (instr.UndoTo q to tag) =
    let w = ideal_wire_in t r q in
    let a = lane r to kind.Undo tag in
    ideal_row (Engaged a) (Cx (ideal_wire_offered p t to) w ∷ Take w false ∷ []) (SlotSet q None ∷ Puts a Token ∷ [])
ideal_row_of p t r (instr.UndoFrom q from tag) =
    let a = lane from r kind.Undo tag in
    ideal_row (Filled a) [] (Takes a ∷ [])
ideal_row_of p t r (instr.MoveTo q to tag) =
    let f = ideal_wire_made t r in
    ideal_row Always (Rename (ideal_wire_in t r q) f ∷ []) (Counts ∷ SlotSet q None ∷ Puts (lane r to kind.Move tag) (Carried f) ∷ [])
ideal_row_of p t r (instr.MoveFrom q from tag) = take_row t (lane from r kind.Move tag) q
ideal_row_of p t r (instr.ReachTo q to tag) =
    let back = lane to r kind.Back tag in
    ideal_row (Filled back) [] (Counts ∷ Takes back ∷ [])
ideal_row_of p t r (instr.ReachFrom q from tag) =
    let back = lane r from kind.Back tag in
    ideal_row (Lent (lane from r kind.Reach tag) back) (Cx (ideal_wire_offered p t from) (ideal_wire_in t r q) ∷ []) (Puts back Token ∷ [])

-- whether an instruction of rank r, where there is one, is a send on lane a
abbrev pub sends_on : ℕ → Option Instr → Lane → Bool
sends_on r None a = false
sends_on r (Some i) a = is_on (lane_sent r i) a

-- whether nothing is on a lane
abbrev pub is_empty_lane : IdealTables → Lane → Bool
is_empty_lane t a = nat_eq (length (t.lanes a)) 0

-- whether what the rule asks for is so
abbrev pub ideal_holds : Programs → IdealTables → IdealRule → Bool
ideal_holds p t Always = true
ideal_holds p t (Filled a) = nat_lt 0 (length (t.lanes a))
ideal_holds p t (Engaged a) = receives_on a.to (ideal_current p t a.to) a && is_empty_lane t a
ideal_holds p t (Lent a back) = sends_on a.from (ideal_current p t a.from) a && is_empty_lane t back

-- whether an instruction of rank r, where there is one, may be done
abbrev pub instr_enabled : Programs → IdealTables → ℕ → Option Instr → Bool
instr_enabled p t r None = false
instr_enabled p t r (Some i) = ideal_holds p t (ideal_row_of p t r i).rule

-- whether rank r is enabled: it has an instruction left, and what its step waits for is so
abbrev pub ideal_enabled : Programs → IdealTables → ℕ → Bool
ideal_enabled p t r = instr_enabled p t r (ideal_current p t r)

-- the tables with another part of rank r
abbrev pub with_ideal_part : IdealTables → ℕ → IdealPart → IdealTables
with_ideal_part t r x = record t { parts = with_at t.parts r x }

-- the tables after an act of rank r
abbrev pub ideal_after_act : ℕ → IdealTables → IdealAct → IdealTables
ideal_after_act r t Counts = with_ideal_part t r (record (t.parts r) { made = (t.parts r).made + 1 })
ideal_after_act r t (SlotSet q w) = record t { slots = with_slot t.slots r q w }
ideal_after_act r t (Puts a x) = record t { lanes = with_lane t.lanes a (t.lanes a ++ x ∷ []) }
ideal_after_act r t (Takes a) = record t { lanes = with_lane t.lanes a (drop 1 (t.lanes a)) }
ideal_after_act r t OwnUsed = with_ideal_part t r (record (t.parts r) { own = drop 1 (t.parts r).own })
ideal_after_act r t (BitSet b v) = with_ideal_part t r (record (t.parts r) { bits = slice_set (t.parts r).bits b v })

-- rank r stands at its next instruction
abbrev pub ideal_past_instr : IdealTables → ℕ → IdealTables
ideal_past_instr t r = with_ideal_part t r (record (t.parts r) { at = (t.parts r).at + 1 })

-- the state after an instruction of rank r, where there is one
abbrev pub after_instr : Programs → IdealState → ℕ → Option Instr → IdealState
after_instr p s r None = s
after_instr p s r (Some i) =
    let x = ideal_row_of p s.tables r i in
    record { tables = ideal_past_instr (fold (ideal_after_act r) s.tables x.acts) r; circuit = s.circuit ++ x.letters }

-- the state after the step of rank r
abbrev pub ideal_next : Programs → IdealState → ℕ → IdealState
ideal_next p s r = after_instr p s r (ideal_current p s.tables r)

-- a rank before its first instruction
abbrev pub ideal_part_at_start : RankProgram → IdealPart
ideal_part_at_start x = record { at = 0; made = 0; bits = replicate BITS false; own = x.own }

-- no wire, nothing on a lane, and each rank before its first instruction
abbrev pub ideal_at_start : Programs → IdealState
ideal_at_start p =
    record {
      tables = record { parts = λ r. ideal_part_at_start (rank_of p r); slots = λ r q. None; lanes = λ a. [] };
      circuit = [];
    }

-- the state that steps of these ranks leave
unfoldable pub ideal_replay : Programs → List ℕ → IdealState
ideal_replay p ranks = fold (ideal_next p) (ideal_at_start p) ranks

-- each of the ranks is enabled in the state that those before it leave
abbrev pub IsIdealFrom : Programs → IdealState → List ℕ → Type 0
IsIdealFrom p s [] = Unit {0}
IsIdealFrom p s (r ∷ rs) = (r < length p.ranks) × (ideal_enabled p s.tables r ≡ true) × IsIdealFrom p (ideal_next p s r) rs

-- an ideal run
unfoldable pub IsIdealRun : Programs → List ℕ → Type 0
IsIdealRun p ranks = IsIdealFrom p (ideal_at_start p) ranks

-- r is the lowest enabled rank
pub record IsLowestIdeal (p : Programs) (t : IdealTables) (r : ℕ) : Type 0 where
  pub known : r < length p.ranks
  pub able : ideal_enabled p t r ≡ true
  pub below : (k : ℕ) → k < r → ideal_enabled p t k ≡ false

-- the ranks of the ideal run that steps the lowest enabled one until none is enabled
abbrev pub IsOneFrom : Programs → IdealState → List ℕ → Type 0
IsOneFrom p s [] = (r : ℕ) → r < length p.ranks → ideal_enabled p s.tables r ≡ false
IsOneFrom p s (r ∷ rs) = IsLowestIdeal p s.tables r × IsOneFrom p (ideal_next p s r) rs

-- the run whose circuit is the one circuit of the programs
unfoldable pub IsOneRun : Programs → List ℕ → Type 0
IsOneRun p ranks = IsOneFrom p (ideal_at_start p) ranks

-- whether rank r has an instruction left
abbrev pub has_instr : Programs → IdealTables → ℕ → Bool
has_instr p t r = is_some (ideal_current p t r)

-- no rank has an instruction left
abbrev pub AllDone : Programs → IdealTables → Type 0
AllDone p t = (r : ℕ) → r < length p.ranks → has_instr p t r ≡ false

-- the wires of a letter that are made fresh before it, where no letter before it names them; a pair makes both of its wires itself
abbrev pub made_fresh : Letter → List Wire
made_fresh (Pair a b) = []
made_fresh (Rename a b) = a ∷ []
made_fresh l = operands l

-- the least capacity of a store in which the letters find room, where these wires are live and those are named already. The wires at the
-- end which no letter names are made fresh after the last letter
abbrev pub width_from : List Wire → List Wire → List Letter → List Wire → ℕ
width_from live named [] ends = length live + length (filter (lacks named) ends)
width_from live named (l ∷ ls) ends =
    let now = live ++ filter (lacks named) (made_fresh l) in
    max (length now) (width_from (live_after l now) (also named (operands l)) ls ends)

-- the width of a circuit at whose end these wires stand in slots
abbrev pub width : Circuit → List Wire → ℕ
width c ends = width_from [] [] c ends
