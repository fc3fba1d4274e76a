-- What the check reads of an instruction
use Rattle.std.specs.Prelude.{ℕ, Option, Some, None}
use Rattle.qm_instr.specs.declared.Gate.{Gate}
use Rattle.qm_instr.specs.declared.Gate.TheVariants as gate
use Rattle.qm_instr.specs.declared.Instr.{Instr}
use Rattle.qm_instr.specs.declared.Instr.TheVariants as instr
use Rattle.qm_check.specs.declared.Uses.{Uses}
use Rattle.qm_check.specs.declared.Uses.TheVariants.{Nothing, Fills, Keeps, Empties, Joins}

-- what a gate does with its slots
abbrev pub gate_uses : Gate → Uses
gate_uses (gate.One g q) = Keeps q
gate_uses (gate.Cx c t) = Joins c t
gate_uses (gate.Cz c t) = Joins c t

-- what an instruction does with its slots
abbrev pub uses_of : Instr → Uses
uses_of (instr.Alloc q) = Fills q
uses_of (instr.Free q) = Empties q
uses_of (instr.Do g) = gate_uses g
uses_of (instr.Measure q b) = Keeps q
uses_of (instr.Set b v) = Nothing
uses_of (instr.Xor b c) = Nothing
uses_of (instr.When b g) = gate_uses g
uses_of (instr.SendBit b to tag) = Nothing
uses_of (instr.RecvBit b from tag) = Nothing
uses_of (instr.CopyTo q to tag) = Keeps q
uses_of (instr.CopyFrom q from tag) = Fills q
uses_of (instr.UndoTo q to tag) = Empties q
uses_of (instr.UndoFrom q from tag) = Keeps q
uses_of (instr.MoveTo q to tag) = Empties q
uses_of (instr.MoveFrom q from tag) = Fills q
uses_of (instr.ReachTo q to tag) = Keeps q
uses_of (instr.ReachFrom t from tag) = Keeps t

-- the rank that an instruction names
abbrev pub partner_of : Instr → Option ℕ
partner_of (instr.Alloc q) = None
partner_of (instr.Free q) = None
partner_of (instr.Do g) = None
partner_of (instr.Measure q b) = None
partner_of (instr.Set b v) = None
partner_of (instr.Xor b c) = None
partner_of (instr.When b g) = None
partner_of (instr.SendBit b to tag) = Some to
partner_of (instr.RecvBit b from tag) = Some from
partner_of (instr.CopyTo q to tag) = Some to
partner_of (instr.CopyFrom q from tag) = Some from
partner_of (instr.UndoTo q to tag) = Some to
partner_of (instr.UndoFrom q from tag) = Some from
partner_of (instr.MoveTo q to tag) = Some to
partner_of (instr.MoveFrom q from tag) = Some from
partner_of (instr.ReachTo q to tag) = Some to
partner_of (instr.ReachFrom t from tag) = Some from
