-- The choice among the direct predecessors of an event
use Rattle.std.specs.Prelude.{ℕ, ◌+◌, nat_eq, nat_lt, Bool, ◌&&◌, ◌||◌, if◌then◌else◌, Option, Some, None}
use Rattle.qm_proto.specs.declared.Event.{Event}
use Rattle.qm_cost.specs.declared.Delays.{Delays}
use Rattle.qm_cost.specs.declared.Links.{Links}
use Rattle.qm_cost.specs.declared.Mark.{Mark}
use Rattle.qm_cost.specs.declared.Way.{Way}
use Rattle.qm_cost.specs.Turns.{takes_in}

-- the way from an event, where there is one, with a lag
abbrev pub way_of : (ℕ → ℕ) → Option ℕ → ℕ → Option Way
way_of best None lag = None
way_of best (Some i) lag = Some (record { length = best i + lag; at = i })

-- whether the second way is better: longer, or as long from an event with a lower number
abbrev pub is_better : Way → Way → Bool
is_better a b = nat_lt a.length b.length || (nat_eq a.length b.length && nat_lt b.at a.at)

-- the better way of two, where there are any
abbrev pub better_of : Option Way → Option Way → Option Way
better_of None b = b
better_of (Some a) None = Some a
better_of (Some a) (Some b) = Some (if is_better a b then b else a)

-- the best way to an event with these predecessors
abbrev pub best_way : (ℕ → ℕ) → ℕ → Links → Option Way
best_way best bits l = better_of (better_of (way_of best l.post bits) (way_of best l.own 0)) (way_of best l.partner 0)

-- how long a way is, and the event that it comes from
abbrev pub length_in : Option Way → ℕ
length_in None = 0
length_in (Some w) = w.length

abbrev pub from_in : Option Way → Option ℕ
from_in None = None
from_in (Some w) = Some w.at

-- the mark of an event of rank r at the end of a way
abbrev pub mark_of : Option Way → ℕ → Event → ℕ → Mark
mark_of w takes e r = record { finish = length_in w + takes; before = from_in w; rank = r; event = e }

-- the mark of an event of rank r with these predecessors
abbrev pub marked : (ℕ → ℕ) → Delays → Links → ℕ → Mark
marked best d l r = mark_of (best_way best d.bits l) (takes_in d l.event) l.event r
