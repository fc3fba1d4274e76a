-- What a report says
use Rattle.std.specs.Prelude.{◌≡◌, ℕ, ◌≤◌, List, [], ◌∷◌, reverse}
use Rattle.qm_instr.specs.Programs.{Programs}
use Rattle.qm_cost.specs.declared.TheConstants.{MOST_DELAY}
use Rattle.qm_cost.specs.declared.Delays.{Delays}
use Rattle.qm_cost.specs.declared.Link.{Link}
use Rattle.qm_cost.specs.Chains.{Work, length_of, IsReported}
use Rattle.qm_cost.specs.Turns.{Turn, turn_at, event_of, turns_of, work_of}

-- no delay is above the largest
pub record AreFew (d : Delays) : Type 0 where
  pub local : d.local ≤ MOST_DELAY
  pub pair : d.pair ≤ MOST_DELAY
  pub bits : d.bits ≤ MOST_DELAY

-- the time, and the chain from its first event to its last one
pub record ReportView : Type 0 where
  pub time : ℕ
  pub chain : List Link

-- the events of a chain with the length of the chain up to each, from the last one to the first
abbrev pub links_back : Work → List Turn → List ℕ → List Link
links_back w ts [] = []
links_back w ts (j ∷ is) =
    record { at = j; rank = (turn_at ts j).rank; event = event_of (turn_at ts j).note; finish = length_of w (j ∷ is) }
    ∷ links_back w ts is

-- the report names the one chain, and its time is the chain's length
pub record IsReport (w : Work) (ts : List Turn) (r : ReportView) : Type 0 where
  pub events : List ℕ  -- from the last one to the first
  pub reported : IsReported w events
  pub time : r.time ≡ length_of w events
  pub chain : r.chain ≡ reverse (links_back w ts events)

-- the report on a schedule of programs
abbrev pub IsCost : Programs → List ℕ → Delays → ReportView → Type 0
IsCost p schedule d r =
    let ts = turns_of p schedule in
    IsReport (work_of ts d) ts r

-- the first event of a schedule, where nothing takes any time
abbrev pub first_link : List Turn → Link
first_link ts = record { at = 0; rank = (turn_at ts 0).rank; event = event_of (turn_at ts 0).note; finish = 0 }

-- one report alone is made of a schedule
abbrev pub OneReport : Type 0
OneReport =
    (p : Programs) (schedule : List ℕ) (d : Delays) (a b : ReportView) → IsCost p schedule d a → IsCost p schedule d b → a ≡ b

-- and there is one
abbrev pub SomeReport : Type 0
SomeReport = (p : Programs) (schedule : List ℕ) (d : Delays) → AreFew d → (r : ReportView) × IsCost p schedule d r
