-- No rank has more halves than its buffer has room for
use Rattle.std.specs.Prelude.{◌≡◌, ◌≢◌, ℕ, ◌+◌, ◌<◌, ◌≤◌, ◌⊎◌, true, List, [], Some, None, Option, length}
use Rattle.qm_denot.specs.Wires.{no_wires, put, how_many}
use Rattle.qm_instr.specs.declared.Instr.{Instr}
use Rattle.qm_instr.specs.declared.Instr.TheVariants as instr
use Rattle.qm_instr.specs.declared.Lane.{Lane}
use Rattle.qm_instr.specs.Programs.{Programs, rank_of}
use Rattle.qm_proto.specs.Model.Rows.{current}
use Rattle.qm_proto.specs.Model.Runs.{halves}
use Rattle.qm_proto.specs.Model.Schedules.{replay}
use Rattle.qm_proto.specs.Model.State.{Tables, near_last}
use Rattle.qm_safety.specs.Safety.Legal.{IsLegalRun}
use Rattle.qm_safety.specs.Tables.Well.{half_lane}

-- rank r stands at the first event of a `copyfrom`, a `movefrom` or a `reachfrom`, and its lane isn't empty
pub record IsAtReceive (p : Programs) (t : Tables) (r : ℕ) : Type 0 where
  pub first : (t.parts r).stage ≡ 0
  pub lane : Lane
  pub takes : half_lane r (current p t r) ≡ Some lane
  pub some : t.lanes lane ≢ []

-- or in the middle of a `reachfrom`
pub record IsInReach (p : Programs) (t : Tables) (r : ℕ) : Type 0 where
  pub slot : ℕ
  pub from : ℕ
  pub tag : ℕ
  pub here : current p t r ≡ Some (instr.ReachFrom slot from tag)
  pub begun : 0 < (t.parts r).stage

-- the event of a `copyto`, a `moveto` or a `reachto` that takes its near half, counted from 0
abbrev pub near_taken_at : Instr → Option ℕ
near_taken_at (instr.Alloc q) = None
near_taken_at (instr.Free q) = None
near_taken_at (instr.Do g) = None
near_taken_at (instr.Measure q b) = None
near_taken_at (instr.Set b v) = None
near_taken_at (instr.Xor b c) = None
near_taken_at (instr.When b g) = None
near_taken_at (instr.SendBit b to tag) = None
near_taken_at (instr.RecvBit b from tag) = None
near_taken_at (instr.CopyTo q to tag) = Some 2
near_taken_at (instr.CopyFrom q from tag) = None
near_taken_at (instr.UndoTo q to tag) = None
near_taken_at (instr.UndoFrom q from tag) = None
near_taken_at (instr.MoveTo q to tag) = Some 3
near_taken_at (instr.MoveFrom q from tag) = None
near_taken_at (instr.ReachTo q to tag) = Some 2
near_taken_at (instr.ReachFrom q from tag) = None

-- rank r stands past the first event of such an instruction, in which the pair is made, and has not had that one
pub record IsBetween (p : Programs) (t : Tables) (r : ℕ) : Type 0 where
  pub instruction : Instr
  pub here : current p t r ≡ Some instruction
  pub last : ℕ
  pub taken_at : near_taken_at instruction ≡ Some last
  pub begun : 0 < (t.parts r).stage
  pub within : (t.parts r).stage ≤ last

-- the halves of rank r, whose buffer has so much room
pub record HasFewHalves (p : Programs) (t : Tables) (r : ℕ) : Type 0 where
  pub counted : halves t r ≡ how_many (t.near r) + how_many (t.far r)
  pub few : halves t r ≤ (rank_of p r).buffer
  pub far_few : how_many (t.far r) ≤ (rank_of p r).buffer
  pub far_full : how_many (t.far r) ≡ (rank_of p r).buffer → IsAtReceive p t r ⊎ IsInReach p t r
  pub near : ((t.near r ≡ put no_wires (near_last t r) true) × IsBetween p t r) ⊎ (t.near r ≡ no_wires)

-- in every state of every legal schedule, for each rank
abbrev pub HalvesLaw : Type 0
HalvesLaw =
    (p : Programs) (schedule : List ℕ) → IsLegalRun p schedule → (r : ℕ) → r < length p.ranks → HasFewHalves p (replay p schedule).tables r
