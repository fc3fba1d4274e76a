-- A line of the table of the events, by the instruction and the stage
use Rattle.std.specs.Prelude.{ℕ, List, [], Option, Some, None, slice_get}
use Rattle.qm_instr.specs.declared.Instr.{Instr}
use Rattle.qm_instr.specs.Programs.{Programs}
use Rattle.qm_proto.specs.declared.Act.{Act}
use Rattle.qm_proto.specs.declared.Row.{Row}
use Rattle.qm_proto.specs.Model.Acts.{list_of}
use Rattle.qm_proto.specs.Model.Rows.{rows}
use Rattle.qm_proto.specs.Model.State.{Tables}

-- the line of the table for an instruction at a stage
abbrev pub row_at : Programs → Tables → ℕ → Instr → ℕ → Option Row
row_at p t r i stage = slice_get (rows p t r i) stage

-- its acts
abbrev pub acts_of : Option Row → List Act
acts_of None = []
acts_of (Some w) = list_of w.acts
