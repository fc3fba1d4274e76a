-- When an instruction takes effect in the ideal run: its deciding event
use Rattle.std.specs.Prelude.{ℕ, ◌+◌, nat_eq, nat_lt, Bool, true, false, ◌&&◌, if◌then◌else◌, List, [], ◌∷◌, Option, Some, None}
use Rattle.qm_instr.specs.declared.Instr.{Instr}
use Rattle.qm_instr.specs.declared.Instr.TheVariants as instr
use Rattle.qm_instr.specs.Programs.{Programs}
use Rattle.qm_proto.specs.Model.State.{Tables, State}
use Rattle.qm_proto.specs.declared.Act.{Act}
use Rattle.qm_proto.specs.declared.Act.TheVariants.{ProtocolUsed}
use Rattle.qm_proto.specs.declared.Row.{Row}
use Rattle.qm_proto.specs.Model.Acts.{list_of}
use Rattle.qm_proto.specs.Model.Rows.{current}
use Rattle.qm_proto.specs.Model.Runs.{row_next, next}
use Rattle.qm_proto.specs.Model.Schedules.{state_at_start}

-- how many events an instruction has before its deciding one. That is the Post of a copy, a move, an undo and the receiver of a reach, the
-- Deliver of the sender of a reach, and the first event of every other instruction
abbrev pub events_before : Instr → ℕ
events_before (instr.Alloc q) = 0
events_before (instr.Free q) = 0
events_before (instr.Do g) = 0
events_before (instr.Measure q b) = 0
events_before (instr.Set b v) = 0
events_before (instr.Xor b c) = 0
events_before (instr.When b g) = 0
events_before (instr.SendBit b to tag) = 0
events_before (instr.RecvBit b from tag) = 0
events_before (instr.CopyTo q to tag) = 2
events_before (instr.CopyFrom q from tag) = 0
events_before (instr.UndoTo q to tag) = 1
events_before (instr.UndoFrom q from tag) = 0
events_before (instr.MoveTo q to tag) = 4
events_before (instr.MoveFrom q from tag) = 0
events_before (instr.ReachTo q to tag) = 3
events_before (instr.ReachFrom q from tag) = 4

abbrev pub before_deciding : Option Instr → ℕ
before_deciding None = 0
before_deciding (Some i) = events_before i

-- whether the next event of rank r is a deciding one
abbrev pub decides : Programs → Tables → ℕ → Bool
decides p t r = nat_eq (t.parts r).stage (before_deciding (current p t r))

-- whether an instruction is in progress, of which so many events are done, the deciding one among them
abbrev pub is_decided : Option Instr → ℕ → Bool
is_decided o stage = nat_lt 0 stage && nat_lt (before_deciding o) stage

-- the ranks of the deciding events of a schedule, in their order
abbrev pub ideal_from : Programs → State → List ℕ → List ℕ
ideal_from p s [] = []
ideal_from p s (r ∷ rs) = let later = ideal_from p (next p s r) rs in if decides p s.tables r then r ∷ later else later

-- the ideal run of a schedule: a rank is stepped at each deciding event
unfoldable pub ideal_of : Programs → List ℕ → List ℕ
ideal_of p schedule = ideal_from p (state_at_start p) schedule

-- ---- outcomes
-- how many outcomes of the protocol tape acts use
abbrev pub is_outcome : Act → Bool
is_outcome ProtocolUsed = true
is_outcome _ = false

abbrev pub outcomes : List Act → ℕ
outcomes [] = 0
outcomes (a ∷ acts) = (if is_outcome a then 1 else 0) + outcomes acts

abbrev pub row_outcomes : Option Row → ℕ
row_outcomes None = 0
row_outcomes (Some w) = outcomes (list_of w.acts)

-- how many outcomes of protocol tapes the events of a schedule use
abbrev pub outcomes_from : Programs → State → List ℕ → ℕ
outcomes_from p s [] = 0
outcomes_from p s (r ∷ rs) = row_outcomes (row_next p s.tables r) + outcomes_from p (next p s r) rs

unfoldable pub outcomes_done : Programs → List ℕ → ℕ
outcomes_done p schedule = outcomes_from p (state_at_start p) schedule
