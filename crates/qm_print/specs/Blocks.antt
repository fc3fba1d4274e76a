-- The blocks of a schedule: its turns, and the events of its turns
use Rattle.std.specs.Prelude.{◌≡◌, ℕ, ◌^◌, ◌<◌, List, [], ◌∷◌, ◌++◌, Option, Some, None, length, codes, decimal, All}
use Rattle.std.specs.List.{flat_map}
use Rattle.qm_instr.specs.Programs.{Programs}
use Rattle.qm_proto.specs.declared.Event.{Event}
use Rattle.qm_proto.specs.declared.Event.TheVariants as event
use Rattle.qm_proto.specs.declared.Row.{Row}
use Rattle.qm_proto.specs.Model.State.{State}
use Rattle.qm_proto.specs.Model.Runs.{row_next, next}
use Rattle.qm_proto.specs.Model.Schedules.{state_at_start}

-- the printed name of an event
abbrev pub event_name : Event → List ℕ
event_name event.Alloc = codes "alloc"
event_name event.Gate = codes "gate"
event_name event.Free = codes "free"
event_name event.Measure = codes "measure"
event_name event.Set = codes "set"
event_name event.Xor = codes "xor"
event_name event.When = codes "when"
event_name event.SendBit = codes "sendbit"
event_name event.RecvBit = codes "recvbit"
event_name event.Pair = codes "pair"
event_name event.Cross = codes "cx"
event_name event.Had = codes "had"
event_name event.Near = codes "near"
event_name event.Post = codes "post"
event_name event.Test = codes "test"
event_name event.Deliver = codes "deliver"
event_name event.FixX = codes "fix-x"
event_name event.FixZ = codes "fix-z"

-- the first line of a block of so many turns
abbrev pub turns_head : ℕ → List ℕ
turns_head turns = codes "turns " ++ decimal turns ++ codes "\n"

-- the line of a turn: its rank
abbrev pub turn_line : ℕ → List ℕ
turn_line r = decimal r ++ codes "\n"

-- a line for each turn
abbrev pub turn_lines : List ℕ → List ℕ
turn_lines schedule = flat_map turn_line schedule

-- the turns of a schedule
abbrev pub turns_block : List ℕ → List ℕ
turns_block schedule = turns_head (length schedule) ++ turn_lines schedule ++ codes "end\n"

-- a rank's number as a block prints it, which has 32 bits
abbrev pub IsRankNumber : ℕ → Type 0
IsRankNumber r = r < 2 ^ 32

-- different schedules have different turns blocks
abbrev pub TurnsLaw : Type 0
TurnsLaw = (s t : List ℕ) → All IsRankNumber s → All IsRankNumber t → turns_block s ≡ turns_block t → s ≡ t

-- the name of a line of the event table, where there is one
abbrev pub row_name : Option Row → List ℕ
row_name None = []
row_name (Some w) = event_name w.event

-- the line of a turn with its event: its rank, and the event's name
abbrev pub event_line : ℕ → List ℕ → List ℕ
event_line r name = decimal r ++ codes " " ++ name ++ codes "\n"

-- a line for each turn, from this state on: its rank, and the event that the rank has next there
abbrev pub event_lines : Programs → State → List ℕ → List ℕ
event_lines p s [] = []
event_lines p s (r ∷ rs) = event_line r (row_name (row_next p s.tables r)) ++ event_lines p (next p s r) rs

-- the turns of a schedule with their events
abbrev pub trace_block : Programs → List ℕ → List ℕ
trace_block p schedule = turns_head (length schedule) ++ event_lines p (state_at_start p) schedule ++ codes "end\n"
