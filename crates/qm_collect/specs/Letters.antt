-- What a collective does to a circuit: the letters of the instructions in the table, on a machine that has the wires of all ranks
use Rattle.std.specs.Prelude.{ℕ, false, List, [], ◌∷◌, ◌++◌, if◌then◌else◌, Option, Some, None, slice_index}
use Rattle.std.specs.List.{flat_map}
use Rattle.qm_denot.specs.declared.Wire.{Wire}
use Rattle.qm_denot.specs.declared.Letter.{Letter}
use Rattle.qm_denot.specs.declared.Letter.TheVariants.{Cx, Take, Rename}
use Rattle.qm_instr.specs.declared.Gate.TheVariants as gate
use Rattle.qm_instr.specs.declared.Instr.{Instr}
use Rattle.qm_instr.specs.declared.Instr.TheVariants as instr
use Rattle.qm_instr.specs.declared.Kind.{Kind}
use Rattle.qm_instr.specs.declared.Kind.TheVariants as kind
use Rattle.qm_instr.specs.declared.Lane.{Lane}
use Rattle.qm_instr.specs.Lanes.{lane_sent, lane_received, is_lane}
use Rattle.qm_instr.specs.Operands.{slots_of}
use Rattle.qm_collect.specs.declared.Collective.{Collective}
use Rattle.qm_collect.specs.Table.{instructions_at}

-- the wires of a collective: the one in each slot of each rank as it begins, and the one that a copy or a move makes, by the rank that
-- sends and the rank that receives
pub record Wiring : Type 0 where
  pub slot : ℕ → ℕ → Wire
  pub sent : ℕ → ℕ → Wire

-- a message's letters on one machine: v is in the sender's slot, u in the receiver's, and f is the wire that a copy or a move makes.
-- A copy is given up by its holder, who sends; a reach has its control at the sender
abbrev pub message_letters : Kind → Wire → Wire → Wire → List Letter
message_letters kind.Bit v u f = []
message_letters kind.Copy v u f = Cx v f ∷ []
message_letters kind.Move v u f = Rename v f ∷ []
message_letters kind.Undo v u f = Cx u v ∷ Take v false ∷ []
message_letters kind.Reach v u f = Cx v u ∷ []
message_letters kind.Back v u f = []

-- the letters where a send and a receive are on one lane
abbrev pub met_letters : Option Lane → Option Lane → Wire → Wire → Wire → List Letter
met_letters None b v u f = []
met_letters (Some a) None v u f = []
met_letters (Some a) (Some b) v u f = if is_lane a b then message_letters a.kind v u f else []

-- the first slot that an instruction names
abbrev pub slot_in : Instr → ℕ
slot_in i = slice_index (slots_of i) 0

-- the letters where rank s receives by j what rank r sends by i
abbrev pub sent_letters : Wiring → ℕ → Instr → ℕ → Instr → List Letter
sent_letters w r i s j = met_letters (lane_sent r i) (lane_received s j) (w.slot r (slot_in i)) (w.slot s (slot_in j)) (w.sent r s)

-- the letters of i at rank r and j at rank s where they are the two ends of a message
abbrev pub letters_between : Wiring → ℕ → Instr → ℕ → Instr → List Letter
letters_between w r i s j = sent_letters w r i s j ++ sent_letters w s j r i

-- the letters of a controlled-not, the only instruction of a collective that is no message
abbrev pub gate_letters : (ℕ → Wire) → Instr → List Letter
gate_letters slot (instr.Do (gate.Cx c t)) = Cx (slot c) (slot t) ∷ []
gate_letters slot i = []

-- the rank at the other end of a message
abbrev pub end_of : Option Lane → Option Lane → Option ℕ
end_of (Some a) b = Some a.to
end_of None (Some b) = Some b.from
end_of None None = None

-- the letters of instruction i of rank r by the rank at its message's other end; without a message, those of a gate
abbrev pub end_letters : Wiring → (ℕ → List Instr) → ℕ → Instr → Option ℕ → List Letter
end_letters w programs r i None = gate_letters (w.slot r) i
end_letters w programs r i (Some s) = flat_map (letters_between w r i s) (programs s)

-- the letters of instruction i of rank r, where each rank does the instructions of its program
abbrev pub letters_at : Wiring → (ℕ → List Instr) → ℕ → Instr → List Letter
letters_at w programs r i = end_letters w programs r i (end_of (lane_sent r i) (lane_received r i))

-- the letters of a collective of n ranks that each rank calls in its own way: those of the root's instructions, one by one
abbrev pub collective_letters : Wiring → ℕ → ℕ → (ℕ → Collective) → List Letter
collective_letters w n root calls =
    let programs : ℕ → List Instr = λ r. instructions_at (calls r) r n in flat_map (letters_at w programs root) (programs root)
