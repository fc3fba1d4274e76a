-- What one pass over the events keeps: of each event the length of the longest chain that ends at it, and the event before in it
use Rattle.std.specs.Prelude.{◌≡◌, ℕ, ◌+◌, ◌*◌, ◌<◌, ◌≤◌, List, [], ◌∷◌, Option, Some, None, slice_index_or, length}
use Rattle.qm_proto.specs.declared.Event.TheVariants as event
use Rattle.qm_cost.specs.declared.Delays.{Delays}
use Rattle.qm_cost.specs.declared.Link.{Link}
use Rattle.qm_cost.specs.declared.Links.{Links}
use Rattle.qm_cost.specs.declared.Mark.{Mark}
use Rattle.qm_cost.specs.Chains.{Work}
use Rattle.qm_cost.specs.Turns.{Turn, turn_at, event_of, own_before, partner_before, post_before, lag_if, larger, work_of}

-- the direct predecessors of event j
abbrev pub links_of : List Turn → ℕ → Links
links_of ts j =
    record { event = event_of (turn_at ts j).note; own = own_before ts j; partner = partner_before ts j; post = post_before ts j }

-- the lag from event i to an event with these predecessors
abbrev pub lag_in : ℕ → Links → ℕ → Option ℕ
lag_in bits l i = larger (lag_if l.post i bits) (larger (lag_if l.own i 0) (lag_if l.partner i 0))

-- event i comes before event j in the longest chain that ends there: from no direct predecessor a longer one comes, and from none with
-- a lower number one that is as long
pub record IsBest (w : Work) (best : ℕ → ℕ) (j i : ℕ) : Type 0 where
  pub lag : ℕ
  pub linked : w.lag i j ≡ Some lag
  pub value : best j ≡ w.takes j + (lag + best i)
  pub most : (k m : ℕ) → w.lag k j ≡ Some m → m + best k ≤ lag + best i
  pub least : (k m : ℕ) → w.lag k j ≡ Some m → m + best k ≡ lag + best i → i ≤ k

-- event j has no direct predecessor
pub record IsAlone (w : Work) (best : ℕ → ℕ) (j : ℕ) : Type 0 where
  pub value : best j ≡ w.takes j
  pub none : (i : ℕ) → w.lag i j ≡ None

abbrev pub IsPassed : Work → (ℕ → ℕ) → ℕ → Option ℕ → Type 0
IsPassed w best j None = IsAlone w best j
IsPassed w best j (Some i) = IsBest w best j i

-- events that go back from the first of two places to the second, each to the one before it
abbrev pub Leads : (ℕ → Option ℕ) → Option ℕ → List ℕ → Option ℕ → Type 0
Leads from here [] there = here ≡ there
Leads from here (j ∷ is) there = (here ≡ Some j) × Leads from (from j) is there

-- ---- over lists
abbrev pub no_mark : Mark
no_mark = record { finish = 0; before = None; rank = 0; event = event.Alloc }

abbrev pub mark_at : List Mark → ℕ → Mark
mark_at ms j = slice_index_or ms j no_mark

abbrev pub finish_in : List Mark → ℕ → ℕ
finish_in ms j = (mark_at ms j).finish

abbrev pub before_in : List Mark → ℕ → Option ℕ
before_in ms j = (mark_at ms j).before

-- an event, where there is one, has a number below j
abbrev pub IsBelow : ℕ → Option ℕ → Type 0
IsBelow j None = Unit {0}
IsBelow j (Some i) = i < j

pub record AreBelow (j : ℕ) (l : Links) : Type 0 where
  pub own : IsBelow j l.own
  pub partner : IsBelow j l.partner
  pub post : IsBelow j l.post

-- the marks of the first n events
pub record AreMarked (ts : List Turn) (d : Delays) (ms : List Mark) (n : ℕ) : Type 0 where
  pub count : length ms ≡ n
  pub each : (j : ℕ) → j < n → IsPassed (work_of ts d) (finish_in ms) j (before_in ms j)
  pub most : (j : ℕ) → j < n → finish_in ms j ≤ 2000000 * (j + 1)
  pub ranks : (j : ℕ) → j < n → (mark_at ms j).rank ≡ (turn_at ts j).rank
  pub events : (j : ℕ) → j < n → (mark_at ms j).event ≡ event_of (turn_at ts j).note

-- event j as its mark tells it
abbrev pub link_at : List Mark → ℕ → Link
link_at ms j = record { at = j; rank = (mark_at ms j).rank; event = (mark_at ms j).event; finish = finish_in ms j }

abbrev pub time_at : List Mark → Option ℕ → ℕ
time_at ms None = 0
time_at ms (Some e) = finish_in ms e
