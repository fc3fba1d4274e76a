-- The events of each instruction, in their order
use Rattle.std.specs.Prelude.{List, [], ◌∷◌}
use Rattle.qm_instr.specs.declared.Instr.{Instr}
use Rattle.qm_instr.specs.declared.Instr.TheVariants as instr
use Rattle.qm_proto.specs.declared.Event.{Event}
use Rattle.qm_proto.specs.declared.Event.TheVariants as event

-- the events in which an instruction is done
abbrev pub events_in : Instr → List Event
events_in (instr.Alloc q) = event.Alloc ∷ []
events_in (instr.Free q) = event.Free ∷ []
events_in (instr.Do g) = event.Gate ∷ []
events_in (instr.Measure q b) = event.Measure ∷ []
events_in (instr.Set b v) = event.Set ∷ []
events_in (instr.Xor b c) = event.Xor ∷ []
events_in (instr.When b g) = event.When ∷ []
events_in (instr.SendBit b to tag) = event.SendBit ∷ []
events_in (instr.RecvBit b from tag) = event.RecvBit ∷ []
events_in (instr.CopyTo q to tag) = event.Pair ∷ event.Cross ∷ event.Post ∷ []
events_in (instr.CopyFrom q from tag) = event.Deliver ∷ event.FixX ∷ []
events_in (instr.UndoTo q to tag) = event.Test ∷ event.Post ∷ []
events_in (instr.UndoFrom q from tag) = event.Deliver ∷ event.FixZ ∷ []
events_in (instr.MoveTo q to tag) = event.Pair ∷ event.Cross ∷ event.Had ∷ event.Near ∷ event.Post ∷ []
events_in (instr.MoveFrom q from tag) = event.Deliver ∷ event.FixX ∷ event.FixZ ∷ []
events_in (instr.ReachTo q to tag) = event.Pair ∷ event.Cross ∷ event.Post ∷ event.Deliver ∷ event.FixZ ∷ []
events_in (instr.ReachFrom t from tag) = event.Deliver ∷ event.FixX ∷ event.Cross ∷ event.Had ∷ event.Post ∷ []
