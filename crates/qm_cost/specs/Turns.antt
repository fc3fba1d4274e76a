-- The events of a schedule, their direct predecessors, and the lags
use Rattle.std.specs.Prelude.{ℕ, zero, suc, ◌+◌, nat_eq, nat_lt, Bool, true, false, ◌&&◌, if◌then◌else◌, List, [], ◌∷◌, Option, Some, None, slice_index_or, length, max}
use Rattle.qm_instr.specs.declared.Lane.{Lane}
use Rattle.qm_instr.specs.Lanes.{is_on}
use Rattle.qm_instr.specs.Programs.{Programs}
use Rattle.qm_proto.specs.declared.Event.{Event}
use Rattle.qm_proto.specs.declared.Event.TheVariants as event
use Rattle.qm_proto.specs.Model.State.{State}
use Rattle.qm_proto.specs.Model.Runs.{next}
use Rattle.qm_proto.specs.Model.Schedules.{state_at_start}
use Rattle.qm_walk.specs.declared.Note.{Note}
use Rattle.qm_walk.specs.Notes.{note_next}
use Rattle.qm_cost.specs.declared.Delays.{Delays}
use Rattle.qm_cost.specs.Chains.{Work}

-- an event of a schedule: its rank, and what the model's line at which the rank stood says; a legal schedule's events all have a line
pub record Turn : Type 0 where
  pub rank : ℕ
  pub note : Option Note

-- the events of a schedule from a state on
abbrev pub turns_from : Programs → State → List ℕ → List Turn
turns_from p s [] = []
turns_from p s (r ∷ rs) = record { rank = r; note = note_next p s.tables r } ∷ turns_from p (next p s r) rs

-- the events of a schedule
abbrev pub turns_of : Programs → List ℕ → List Turn
turns_of p schedule = turns_from p (state_at_start p) schedule

abbrev pub no_turn : Turn
no_turn = record { rank = 0; note = None }

-- event number i
abbrev pub turn_at : List Turn → ℕ → Turn
turn_at ts i = slice_index_or ts i no_turn

-- ---- what a line says; where there is none, no event is there, and any stands for it
abbrev pub event_of : Option Note → Event
event_of None = event.Alloc
event_of (Some n) = n.event

abbrev pub partner_of : Option Note → Option ℕ
partner_of None = None
partner_of (Some n) = n.partner

abbrev pub lane_put : Option Note → Option Lane
lane_put None = None
lane_put (Some n) = n.put

abbrev pub lane_given : Option Note → Option Lane
lane_given None = None
lane_given (Some n) = n.given

abbrev pub lane_taken : Option Note → Option Lane
lane_taken None = None
lane_taken (Some n) = n.taken

-- ---- the events before an event
-- the last of the first j events that is of rank r
abbrev pub last_of : List Turn → ℕ → ℕ → Option ℕ
last_of ts r zero = None
last_of ts r (suc j) = if nat_eq (turn_at ts j).rank r then Some j else last_of ts r j

-- the last of the first j events of a rank, where there is the rank
abbrev pub last_of_some : List Turn → Option ℕ → ℕ → Option ℕ
last_of_some ts None j = None
last_of_some ts (Some r) j = last_of ts r j

abbrev pub one_if : Bool → ℕ
one_if true = 1
one_if false = 0

-- how many parcels the first j events put on lane a: the next one has this number
abbrev pub put_before : List Turn → Lane → ℕ → ℕ
put_before ts a zero = 0
put_before ts a (suc j) = put_before ts a j + one_if (is_on (lane_put (turn_at ts j).note) a)

-- how many parcels they take from it: the one at its front has this number; nothing is taken where nothing is on the lane
abbrev pub taken_before : List Turn → Lane → ℕ → ℕ
taken_before ts a zero = 0
taken_before ts a (suc j) =
    let n = taken_before ts a j in
    n + one_if (is_on (lane_taken (turn_at ts j).note) a && nat_lt n (put_before ts a j))

-- whether event i gives its bits to parcel number n of lane a: it gives bits to the last parcel of the lane
abbrev pub gives : List Turn → ℕ → Lane → ℕ → Bool
gives ts i a n = is_on (lane_given (turn_at ts i).note) a && nat_eq (put_before ts a (suc i)) (n + 1)

-- the event of the first j that gave its bits to parcel number n of lane a
abbrev pub giver_of : List Turn → Lane → ℕ → ℕ → Option ℕ
giver_of ts a n zero = None
giver_of ts a n (suc i) = if gives ts i a n then Some i else giver_of ts a n i

-- the event that gave its bits to the parcel that event j takes from a lane, where it takes one
abbrev pub giver_before : List Turn → Option Lane → ℕ → Option ℕ
giver_before ts None j = None
giver_before ts (Some a) j = giver_of ts a (taken_before ts a j) j

-- ---- direct predecessors
-- the last event before event j of the same rank
abbrev pub own_before : List Turn → ℕ → Option ℕ
own_before ts j = last_of ts (turn_at ts j).rank j

-- the last event before event j, a pair or a test, of the rank for which it waits
abbrev pub partner_before : List Turn → ℕ → Option ℕ
partner_before ts j = last_of_some ts (partner_of (turn_at ts j).note) j

-- the event that gave its bits to the parcel that event j takes
abbrev pub post_before : List Turn → ℕ → Option ℕ
post_before ts j = giver_before ts (lane_taken (turn_at ts j).note) j

-- whether an event is the one, where there is one
abbrev pub is_number : Option ℕ → ℕ → Bool
is_number None i = false
is_number (Some k) i = nat_eq k i

-- the lag where event i is the one
abbrev pub lag_if : Option ℕ → ℕ → ℕ → Option ℕ
lag_if o i lag = if is_number o i then Some lag else None

-- the larger of two lags, where there are any
abbrev pub larger : Option ℕ → Option ℕ → Option ℕ
larger None b = b
larger (Some a) None = Some a
larger (Some a) (Some b) = Some (max a b)

-- the lag from event i to event j, where event i is a direct predecessor of event j: that of bits where it gave the bits of the parcel
-- that event j takes, and 0 where it is the last event of the same rank or of the partner
abbrev pub lag_between : List Turn → ℕ → ℕ → ℕ → Option ℕ
lag_between ts bits i j =
    larger (lag_if (post_before ts j) i bits) (larger (lag_if (own_before ts j) i 0) (lag_if (partner_before ts j) i 0))

-- how long an event takes
abbrev pub takes_in : Delays → Event → ℕ
takes_in d event.Pair = d.pair
takes_in d _ = d.local

-- the events of a schedule with their durations and lags
abbrev pub work_of : List Turn → Delays → Work
work_of ts d =
    record {
      count = length ts;
      takes = λ j. takes_in d (event_of (turn_at ts j).note);
      lag = λ i j. lag_between ts d.bits i j;
    }
