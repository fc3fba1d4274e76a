-- Schedules: what they leave, which of them are legal, and how a run ends
use Rattle.std.specs.Prelude.{◌≡◌, ℕ, ◌<◌, ◌⊎◌, true, false, List, [], ◌∷◌, None, length, map, fold, sum_by, replicate}
use Rattle.qm_denot.specs.Wires.{no_wires}
use Rattle.qm_limits.specs.declared.TheConstants.{BITS}
use Rattle.qm_instr.specs.Counts.{protocol_of}
use Rattle.qm_instr.specs.Programs.{Programs, RankProgram, rank_of}
use Rattle.qm_proto.specs.declared.Cause.{Cause}
use Rattle.qm_proto.specs.Model.State.{Part, Tables, State, no_parcel}
use Rattle.qm_proto.specs.Model.Runs.{has_event, enabled, IsRefused, IsAllowed, next_tables, next}

-- a rank before its first event
abbrev pub part_at_start : RankProgram → Part
part_at_start x =
    record {
      at = 0;
      stage = 0;
      made = 0;
      bits = replicate BITS false;
      own = x.own;
      protocol = x.protocol;
      taken = no_parcel;
      first = false;
    }

-- no wire, no parcel, and each rank before its first event
abbrev pub tables_at_start : Programs → Tables
tables_at_start p =
    record {
      parts = λ r. part_at_start (rank_of p r);
      slots = λ r q. None;
      near = λ r. no_wires;
      far = λ r. no_wires;
      held = λ r. 0;
      lanes = λ a. [];
    }

-- the tables at the start, with the empty circuit
abbrev pub state_at_start : Programs → State
state_at_start p = record { tables = tables_at_start p; circuit = [] }

-- the state that a schedule leaves: one event of the rank for each of its entries
unfoldable pub replay : Programs → List ℕ → State
replay p schedule = fold (next p) (state_at_start p) schedule

-- rank r may have its next event: it is enabled, and not refused
pub record MayStep (p : Programs) (s : State) (r : ℕ) : Type 0 where
  pub known : r < length p.ranks
  pub able : enabled p s.tables r ≡ true
  pub allowed : IsAllowed p s r

-- each entry may have its next event in the state that the entries before it leave
abbrev pub IsLegalFrom : Programs → State → List ℕ → Type 0
IsLegalFrom p s [] = Unit {0}
IsLegalFrom p s (r ∷ rs) = MayStep p s r × IsLegalFrom p (next p s r) rs

-- a schedule is legal: each entry's rank may have its next event when its turn comes
unfoldable pub IsLegal : Programs → List ℕ → Type 0
IsLegal p schedule = IsLegalFrom p (state_at_start p) schedule

-- no rank has an event left
abbrev pub AllEnded : Programs → Tables → Type 0
AllEnded p t = (r : ℕ) → r < length p.ranks → has_event p t r ≡ false

-- the schedule is legal, and no rank has an event left at its end
pub record IsComplete (p : Programs) (schedule : List ℕ) : Type 0 where
  pub legal : IsLegal p schedule
  pub ended : AllEnded p (replay p schedule).tables

-- no rank is enabled
abbrev pub NoneEnabled : Programs → Tables → Type 0
NoneEnabled p t = (r : ℕ) → r < length p.ranks → enabled p t r ≡ false

-- some rank has an event left, and no rank is enabled
pub record IsStuck (p : Programs) (t : Tables) : Type 0 where
  pub left : (r : ℕ) × (r < length p.ranks) × (has_event p t r ≡ true)
  pub none : NoneEnabled p t

-- r is the lowest rank that has an event left
pub record IsLowestLeft (p : Programs) (t : Tables) (r : ℕ) : Type 0 where
  pub known : r < length p.ranks
  pub left : has_event p t r ≡ true
  pub below : (k : ℕ) → k < r → has_event p t k ≡ false

-- r is the lowest rank that is enabled
pub record IsLowestEnabled (p : Programs) (t : Tables) (r : ℕ) : Type 0 where
  pub known : r < length p.ranks
  pub able : enabled p t r ≡ true
  pub below : (k : ℕ) → k < r → enabled p t k ≡ false

-- the run that steps the lowest enabled rank ends here: no rank is enabled, or the lowest that is has a refused event
abbrev pub IsFirstEnd : Programs → State → Type 0
IsFirstEnd p s =
    NoneEnabled p s.tables ⊎ ((r : ℕ) × (c : Cause) × IsLowestEnabled p s.tables r × IsRefused p s r c)

-- the entries of the run that steps the lowest enabled rank from here on, up to its end
abbrev pub IsFirstFrom : Programs → State → List ℕ → Type 0
IsFirstFrom p s [] = IsFirstEnd p s
IsFirstFrom p s (r ∷ rs) = IsLowestEnabled p s.tables r × IsAllowed p s r × IsFirstFrom p (next p s r) rs

-- the schedule that always takes the lowest enabled rank
unfoldable pub IsFirst : Programs → List ℕ → Type 0
IsFirst p schedule = IsFirstFrom p (state_at_start p) schedule

-- the beginnings of that schedule: each entry is the lowest enabled rank in the state that the entries before it leave, and is allowed
abbrev pub IsFirstSoFarFrom : Programs → State → List ℕ → Type 0
IsFirstSoFarFrom p s [] = Unit {0}
IsFirstSoFarFrom p s (r ∷ rs) = IsLowestEnabled p s.tables r × IsAllowed p s r × IsFirstSoFarFrom p (next p s r) rs

-- the schedule takes the lowest enabled rank each time, from the start on; it need not go on to the run's end
unfoldable pub IsFirstSoFar : Programs → List ℕ → Type 0
IsFirstSoFar p schedule = IsFirstSoFarFrom p (state_at_start p) schedule

-- a rank's program with a buffer of size 1
abbrev pub with_buffer_of_one : RankProgram → RankProgram
with_buffer_of_one x = record x { buffer = 1 }

-- the programs with every buffer of size 1
abbrev pub with_buffers_of_one : Programs → Programs
with_buffers_of_one p = record p { ranks = map with_buffer_of_one p.ranks }

-- the entries of such a run where no event is refused and letters are left aside
abbrev pub IsMeetingFrom : Programs → Tables → List ℕ → Type 0
IsMeetingFrom p t [] = NoneEnabled p t
IsMeetingFrom p t (r ∷ rs) = IsLowestEnabled p t r × IsMeetingFrom p (next_tables p t r) rs

-- the rendezvous run, with every buffer of size 1, leaves no rank an event
unfoldable pub RendezvousEnds : Programs → Type 0
RendezvousEnds p =
    let q = with_buffers_of_one p in
    (schedule : List ℕ) × IsMeetingFrom q (tables_at_start q) schedule
    × AllEnded q (fold (next_tables q) (tables_at_start q) schedule)

-- how many outcomes of the protocol tapes all instructions take
abbrev pub protocol_total : Programs → ℕ
protocol_total p = sum_by (λ x. sum_by protocol_of x.instructions) p.ranks
