-- How many messages a lane has, and lanes on which sends and receives don't match
use Rattle.std.specs.Prelude.{◌≡◌, ℕ, ◌<◌, ◌==◌, Bool, true, false, ◌||◌, if◌then◌else◌, List, [], ◌∷◌, map, All, count_by, Option, Some, None}
use Rattle.std.specs.declared.cmp.Ordering.TheVariants.{Less}
use Rattle.std.specs.List.Sorted.{IsStrictlySortedBy}
use Rattle.qm_instr.specs.declared.Instr.{Instr}
use Rattle.qm_instr.specs.declared.Instr.TheVariants as instr
use Rattle.qm_instr.specs.declared.Kind.{Kind}
use Rattle.qm_instr.specs.declared.Kind.TheVariants as kind
use Rattle.qm_instr.specs.declared.Lane.{Lane}
use Rattle.qm_instr.specs.Lanes.{lane, lane_order, is_lane, lane_sent, lane_received, is_on}
use Rattle.qm_instr.specs.Programs.{Programs, rank_of}
use Rattle.qm_check.specs.declared.Fault.{Fault}
use Rattle.qm_check.specs.declared.Fault.TheVariants as fault
use Rattle.qm_check.specs.declared.LaneCount.{LaneCount}

-- the lane on which an instruction of a rank posts: that of its send, or of its answer to a reach
abbrev pub post_lane : ℕ → Instr → Option Lane
post_lane r (instr.ReachFrom t from tag) = Some (lane r from kind.Back tag)
post_lane r i = lane_sent r i

-- whether an instruction of a rank posts on lane a
abbrev pub posts_on : ℕ → Instr → Lane → Bool
posts_on r i a = is_on (post_lane r i) a

-- how many instructions of a rank post on a lane
abbrev pub posts_in : ℕ → Lane → List Instr → ℕ
posts_in r a is = count_by (λ i. posts_on r i a) is

-- how many instructions of a rank receive on a lane
abbrev pub receives_in : ℕ → Lane → List Instr → ℕ
receives_in r a is = count_by (λ i. is_on (lane_received r i) a) is

-- the sends of a lane, all at its sender
abbrev pub lane_sends : Programs → Lane → ℕ
lane_sends p a = posts_in a.from a (rank_of p a.from).instructions

-- the receives of a lane, all at its receiver
abbrev pub lane_receives : Programs → Lane → ℕ
lane_receives p a = receives_in a.to a (rank_of p a.to).instructions

-- whether a lane carries answers, which no instruction alone sends or receives
abbrev pub is_back : Kind → Bool
is_back kind.Back = true
is_back kind.Bit = false
is_back kind.Copy = false
is_back kind.Move = false
is_back kind.Undo = false
is_back kind.Reach = false

-- the fault of a lane with so many sends and receives
abbrev pub match_fault : Lane → ℕ → ℕ → Option Fault
match_fault a sends receives =
    if is_back a.kind || sends == receives then None else Some (fault.UnmatchedLane a sends receives)

-- the fault of a lane
abbrev pub lane_fault : Programs → Lane → Option Fault
lane_fault p a = match_fault a (lane_sends p a) (lane_receives p a)

-- lanes in their order
abbrev pub IsLower : Lane → Lane → Type 0
IsLower a b = lane_order a b ≡ Less

-- the sends of a lane by a list of counts; a lane that it doesn't have has none
abbrev pub listed_sends : List LaneCount → Lane → ℕ
listed_sends [] a = 0
listed_sends (c ∷ cs) a = if is_lane c.lane a then c.sends else listed_sends cs a

-- the lanes on which something is posted, lowest first, each once and with its sends
pub record IsLaneTable (p : Programs) (cs : List LaneCount) : Type 0 where
  pub rising : IsStrictlySortedBy lane_order (map (λ c. c.lane) cs)
  pub some : All (λ c. 0 < c.sends) cs
  pub exact : (a : Lane) → listed_sends cs a ≡ lane_sends p a
