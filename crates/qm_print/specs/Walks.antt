-- Where the ranks stand in the order of their events, which how often each of them was stepped decides
use Rattle.std.specs.Prelude.{◌≡◌, ◌<◌, ◌+◌, ℕ, nat_lt, if◌then◌else◌, List, length, Option, Some, None, slice_get, slice_index_or}
use Rattle.qm_instr.specs.declared.Instr.{Instr}
use Rattle.qm_instr.specs.Programs.{Programs}
use Rattle.qm_proto.specs.declared.Event.{Event}
use Rattle.qm_proto.specs.Events.{events_in}
use Rattle.qm_proto.specs.Model.Rows.{instr_at}
use Rattle.qm_proto.specs.Model.Runs.{events_at}
use Rattle.qm_proto.specs.Model.State.{Tables}
use Rattle.qm_print.specs.declared.blocks.Position.{Position}

-- the start of a rank
abbrev pub first_position : Position
first_position = record { at = 0; stage = 0 }

-- where a rank stands; past the last rank, at the start
abbrev pub position_at : List Position → ℕ → Position
position_at positions r = slice_index_or positions r first_position

-- the event of an instruction, where there is one, at a stage
abbrev pub event_in : Option Instr → ℕ → Option Event
event_in None stage = None
event_in (Some i) stage = slice_get (events_in i) stage

-- the event that a rank has next at a position
abbrev pub event_at : Programs → ℕ → Position → Option Event
event_at p r x = event_in (instr_at p r x.at) x.stage

-- the position behind it
abbrev pub position_after : Programs → ℕ → Position → Position
position_after p r x =
    if nat_lt (x.stage + 1) (events_at (instr_at p r x.at))
    then record { at = x.at; stage = x.stage + 1 }
    else record { at = x.at + 1; stage = 0 }

-- each rank stands where the tables say
pub record StandsIn (p : Programs) (positions : List Position) (t : Tables) : Type 0 where
  pub all : length positions ≡ length p.ranks
  pub at : (r : ℕ) → r < length p.ranks → (position_at positions r).at ≡ (t.parts r).at
  pub stage : (r : ℕ) → r < length p.ranks → (position_at positions r).stage ≡ (t.parts r).stage
