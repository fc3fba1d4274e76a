-- The slots and the classical bits that an instruction names
use Rattle.std.specs.Prelude.{ℕ, ◌<◌, List, [], ◌∷◌, All}
use Rattle.qm_limits.specs.declared.TheConstants.{BITS}
use Rattle.qm_instr.specs.declared.Gate.{Gate}
use Rattle.qm_instr.specs.declared.Gate.TheVariants as gate
use Rattle.qm_instr.specs.declared.Instr.{Instr}
use Rattle.qm_instr.specs.declared.Instr.TheVariants as instr

-- the slots of a gate, from left to right
abbrev pub gate_slots : Gate → List ℕ
gate_slots (gate.One g q) = q ∷ []
gate_slots (gate.Cx c t) = c ∷ t ∷ []
gate_slots (gate.Cz c t) = c ∷ t ∷ []

-- the slots of an instruction, from left to right
abbrev pub slots_of : Instr → List ℕ
slots_of (instr.Alloc q) = q ∷ []
slots_of (instr.Free q) = q ∷ []
slots_of (instr.Do g) = gate_slots g
slots_of (instr.Measure q b) = q ∷ []
slots_of (instr.Set b v) = []
slots_of (instr.Xor b c) = []
slots_of (instr.When b g) = gate_slots g
slots_of (instr.SendBit b to tag) = []
slots_of (instr.RecvBit b from tag) = []
slots_of (instr.CopyTo q to tag) = q ∷ []
slots_of (instr.CopyFrom q from tag) = q ∷ []
slots_of (instr.UndoTo q to tag) = q ∷ []
slots_of (instr.UndoFrom q from tag) = q ∷ []
slots_of (instr.MoveTo q to tag) = q ∷ []
slots_of (instr.MoveFrom q from tag) = q ∷ []
slots_of (instr.ReachTo q to tag) = q ∷ []
slots_of (instr.ReachFrom t from tag) = t ∷ []

-- the classical bits of an instruction
abbrev pub bits_of : Instr → List ℕ
bits_of (instr.Alloc q) = []
bits_of (instr.Free q) = []
bits_of (instr.Do g) = []
bits_of (instr.Measure q b) = b ∷ []
bits_of (instr.Set b v) = b ∷ []
bits_of (instr.Xor b c) = b ∷ c ∷ []
bits_of (instr.When b g) = b ∷ []
bits_of (instr.SendBit b to tag) = b ∷ []
bits_of (instr.RecvBit b from tag) = b ∷ []
bits_of (instr.CopyTo q to tag) = []
bits_of (instr.CopyFrom q from tag) = []
bits_of (instr.UndoTo q to tag) = []
bits_of (instr.UndoFrom q from tag) = []
bits_of (instr.MoveTo q to tag) = []
bits_of (instr.MoveFrom q from tag) = []
bits_of (instr.ReachTo q to tag) = []
bits_of (instr.ReachFrom t from tag) = []

-- each slot is below the rank's qubits, and each bit is one of a rank's
pub record HasOperands (qubits : ℕ) (i : Instr) : Type 0 where
  pub slots : All (λ q. q < qubits) (slots_of i)
  pub bits : All (λ b. b < BITS) (bits_of i)
