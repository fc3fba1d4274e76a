-- The tallies of the lanes, as the code keeps them
use Rattle.std.specs.Prelude.{ℕ, ◌+◌, ◌≤◌, nat_lt, if◌then◌else◌, List, [], ◌∷◌, unwrap_or, Option, None}
use Rattle.std.specs.Option.{option_or}
use Rattle.std.specs.BTreeMap.{BTreeMap, get}
use Rattle.qm_instr.specs.declared.Instr.{Instr}
use Rattle.qm_instr.specs.declared.Lane.{Lane}
use Rattle.qm_instr.specs.Lanes.{code_order, lane_received, is_on}
use Rattle.qm_instr.specs.Programs.{Programs}
use Rattle.qm_check.specs.declared.Fault.{Fault}
use Rattle.qm_check.specs.declared.LaneCount.{LaneCount}
use Rattle.qm_check.specs.declared.messages.Tally.{Tally}
use Rattle.qm_check.specs.Messages.{post_lane, posts_in, receives_in, lane_sends, lane_receives, match_fault}

abbrev pub tally : ℕ → ℕ → Tally
tally sends receives = record { sends = sends; receives = receives }

-- the tally of a lane
abbrev pub tally_in : BTreeMap Lane Tally → Lane → Tally
tally_in m a = unwrap_or (get code_order m a) (tally 0 0)

-- two tallies together
abbrev pub plus : Tally → Tally → Tally
plus s t = tally (s.sends + t.sends) (s.receives + t.receives)

-- what a message on a lane, if it is one, adds to the tally of lane a
abbrev pub plus_at : Option Lane → Tally → Lane → Tally → Tally
plus_at on more a had = if is_on on a then plus had more else had

-- a lane's tally over instructions of a rank
abbrev pub rank_tally : ℕ → List Instr → Lane → Tally
rank_tally r is a = tally (posts_in r a is) (receives_in r a is)

-- a lane's tally over all ranks
abbrev pub lane_tally : Programs → Lane → Tally
lane_tally p a = tally (lane_sends p a) (lane_receives p a)

-- the first lane whose sends and receives don't match
abbrev pub first_mismatch : List (Lane × Tally) → Option Fault
first_mismatch [] = None
first_mismatch (e ∷ es) = option_or (match_fault e.0 e.1.sends e.1.receives) (first_mismatch es)

-- the lanes with sends, and how many
abbrev pub sends_listed : List (Lane × Tally) → List LaneCount
sends_listed [] = []
sends_listed (e ∷ es) =
    if nat_lt 0 e.1.sends then record { lane = e.0; sends = e.1.sends } ∷ sends_listed es else sends_listed es

-- what an instruction of a rank adds to the tally of lane a
abbrev pub plus_instruction : ℕ → Instr → Lane → Tally → Tally
plus_instruction r i a had =
    plus_at (lane_received r i) (tally 0 1) a (plus_at (post_lane r i) (tally 1 0) a had)

-- a tally is at most so much
abbrev pub IsAtMost : ℕ → Tally → Type 0
IsAtMost n t = (t.sends ≤ n) × (t.receives ≤ n)
