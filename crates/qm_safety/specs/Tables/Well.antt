-- What is so of each rank, each lane and each list of halves at all times of a run
use Rattle.std.specs.Prelude.{◌≡◌, ℕ, ◌+◌, ◌-◌, ◌<◌, ◌≤◌, nat_eq, nat_lt, Bool, true, false, cond, ◌&&◌, ◌||◌, if◌then◌else◌, List, length, take, sum_by, All, Option, Some, None, is_some}
use Rattle.qm_denot.specs.declared.Wire.{Wire}
use Rattle.qm_denot.specs.Wires.{Wires, no_wires, put, how_many}
use Rattle.qm_limits.specs.declared.TheConstants.{BITS}
use Rattle.qm_instr.specs.declared.Instr.{Instr}
use Rattle.qm_instr.specs.declared.Instr.TheVariants as instr
use Rattle.qm_instr.specs.declared.Kind.{Kind}
use Rattle.qm_instr.specs.declared.Kind.TheVariants as kind
use Rattle.qm_instr.specs.declared.Lane.{Lane}
use Rattle.qm_instr.specs.Counts.{protocol_of, own_of}
use Rattle.qm_instr.specs.Lanes.{lane_sent, lane_received, is_on}
use Rattle.qm_instr.specs.Programs.{Programs, RankProgram, rank_of}
use Rattle.qm_check.specs.Messages.{posts_in}
use Rattle.qm_check.specs.Slots.{full_after}
use Rattle.qm_denot.specs.declared.Parcel.{Parcel}
use Rattle.qm_proto.specs.Model.State.{Part, Tables, wire_of}
use Rattle.qm_proto.specs.Model.Rows.{current}
use Rattle.qm_denot.specs.Parcels.{IsFillable}
use Rattle.qm_proto.specs.Model.Tidy.{IsTidy, IsInHand}

-- ---- what an instruction is in the middle of
pub record Middle : Type 0 where
  pub settles : Option ℕ  -- the slot into which its first event puts a half
  pub near : ℕ  -- a near half is held from stage 1 on, below this stage
  pub unfilled : ℕ  -- the parcel that it posted has no bits from stage 1 on, below this stage
  pub outcome : ℕ  -- past this stage, but not at its end, it has taken an outcome of the protocol tape

abbrev pub middle : Option ℕ → ℕ → ℕ → ℕ → Middle
middle settles near unfilled outcome = record { settles = settles; near = near; unfilled = unfilled; outcome = outcome }

abbrev pub middle_of : Instr → Middle
middle_of (instr.Alloc q) = middle None 0 0 5
middle_of (instr.Free q) = middle None 0 0 5
middle_of (instr.Do g) = middle None 0 0 5
middle_of (instr.Measure q b) = middle None 0 0 5
middle_of (instr.Set b v) = middle None 0 0 5
middle_of (instr.Xor b c) = middle None 0 0 5
middle_of (instr.When b g) = middle None 0 0 5
middle_of (instr.SendBit b to tag) = middle None 0 0 5
middle_of (instr.RecvBit b from tag) = middle None 0 0 5
middle_of (instr.CopyTo q to tag) = middle None 3 3 5
middle_of (instr.CopyFrom q from tag) = middle (Some q) 0 0 5
middle_of (instr.UndoTo q to tag) = middle None 0 0 5
middle_of (instr.UndoFrom q from tag) = middle None 0 0 5
middle_of (instr.MoveTo q to tag) = middle None 4 5 3
middle_of (instr.MoveFrom q from tag) = middle (Some q) 0 0 5
middle_of (instr.ReachTo q to tag) = middle None 3 3 2
middle_of (instr.ReachFrom q from tag) = middle None 0 0 5

abbrev pub middle_at : Option Instr → Middle
middle_at None = middle None 0 0 5
middle_at (Some i) = middle_of i

-- its slot has the half
abbrev pub is_settled : Middle → ℕ → Bool
is_settled m s = nat_lt 0 s && is_some m.settles

-- it holds a near half
abbrev pub has_near : Middle → ℕ → Bool
has_near m s = nat_lt 0 s && nat_lt s m.near

-- its half is posted
abbrev pub has_posted : Middle → ℕ → Bool
has_posted m s = nat_lt 0 s && nat_lt 0 m.unfilled

-- its half is posted, and the bits are not
abbrev pub is_open : Middle → ℕ → Bool
is_open m s = nat_lt 0 s && nat_lt s m.unfilled

-- how many outcomes of the protocol tape it has taken
abbrev pub outcomes_in : Middle → ℕ → ℕ
outcomes_in m s = cond (nat_lt 0 s && nat_lt m.outcome s) 1 0

-- ---- one rank
-- the set of one wire where the bit is one, and the empty set where it is zero
abbrev pub one_if : Bool → Wire → Wires
one_if true w = put no_wires w true
one_if false w = no_wires

-- the near half of rank r that it made last
abbrev pub near_of : ℕ → Part → Wire
near_of r v = record { rank = r; made = v.made - 1; near = true }

-- rank r stands at stage s of instruction `at`
pub record Stands (r : ℕ) (x : RankProgram) (m : Middle) (at s : ℕ) (v : Part) (slots : ℕ → Option Wire) (near : Wires) : Type 0 where
  pub full : (q : ℕ) → is_some (slots q) ≡ full_after (take (cond (is_settled m s) (at + 1) at) x.instructions) q
  pub near_so : near ≡ one_if (has_near m s) (near_of r v)
  pub in_hand : (q : ℕ) → m.settles ≡ Some q → nat_lt 0 s ≡ true → slots q ≡ Some (wire_of v.taken)
  pub protocol : length v.protocol + (sum_by protocol_of (take at x.instructions) + outcomes_in m s) ≡ sum_by protocol_of x.instructions
  pub own : length v.own + sum_by own_of (take at x.instructions) ≡ sum_by own_of x.instructions
  pub bits : length v.bits ≡ BITS

abbrev pub IsRankWell : Programs → Tables → ℕ → Type 0
IsRankWell p t r =
    let v = t.parts r in
    Stands r (rank_of p r) (middle_at (current p t r)) v.at v.stage v (t.slots r) (t.near r)

-- ---- one lane
-- the parcels of these kinds carry halves
abbrev pub is_half : Kind → Bool
is_half kind.Bit = false
is_half kind.Copy = true
is_half kind.Move = true
is_half kind.Undo = false
is_half kind.Reach = true
is_half kind.Back = false

-- the lane on which an instruction, where there is one, is a send
abbrev pub sent_at : ℕ → Option Instr → Option Lane
sent_at r None = None
sent_at r (Some i) = lane_sent r i

-- no more parcels than were posted; the last one waits for its bits where the sender is between them; and halves are carried
pub record IsLaneSound (a : Lane) (x : RankProgram) (o : Option Instr) (at s : ℕ) (parcels : List Parcel) : Type 0 where
  pub few : length parcels ≤ posts_in a.from a (take (cond (has_posted (middle_at o) s) (at + 1) at) x.instructions)
  pub fillable : is_open (middle_at o) s ≡ true → is_on (sent_at a.from o) a ≡ true → IsFillable parcels
  pub wired : is_half a.kind ≡ true → All (λ y. is_some y.wire ≡ true) parcels

abbrev pub IsLaneWell : Programs → Tables → Lane → Type 0
IsLaneWell p t a =
    let v = t.parts a.from in
    IsLaneSound a (rank_of p a.from) (current p t a.from) v.at v.stage (t.lanes a)

-- ---- the far halves of one rank
-- the lane, where there is one and its parcels carry halves
abbrev pub if_half : Option Lane → Option Lane
if_half None = None
if_half (Some a) = if is_half a.kind then Some a else None

-- the lane from which an instruction takes a half: that on which it is a receive, of halves
abbrev pub half_lane : ℕ → Option Instr → Option Lane
half_lane r None = None
half_lane r (Some i) = if_half (lane_received r i)

-- it holds the half that it took up to its end
abbrev pub keeps_half : Option Instr → Bool
keeps_half None = false
keeps_half (Some (instr.Alloc q)) = false
keeps_half (Some (instr.Free q)) = false
keeps_half (Some (instr.Do g)) = false
keeps_half (Some (instr.Measure q b)) = false
keeps_half (Some (instr.Set b v)) = false
keeps_half (Some (instr.Xor b c)) = false
keeps_half (Some (instr.When b g)) = false
keeps_half (Some (instr.SendBit b to tag)) = false
keeps_half (Some (instr.RecvBit b from tag)) = false
keeps_half (Some (instr.CopyTo q to tag)) = false
keeps_half (Some (instr.CopyFrom q from tag)) = false
keeps_half (Some (instr.UndoTo q to tag)) = false
keeps_half (Some (instr.UndoFrom q from tag)) = false
keeps_half (Some (instr.MoveTo q to tag)) = false
keeps_half (Some (instr.MoveFrom q from tag)) = false
keeps_half (Some (instr.ReachTo q to tag)) = false
keeps_half (Some (instr.ReachFrom q from tag)) = true

abbrev pub has_parcel : (Lane → List Parcel) → Option Lane → Bool
has_parcel lanes None = false
has_parcel lanes (Some a) = nat_lt 0 (length (lanes a))

-- rank r may take a half now, or holds one that it took
abbrev pub is_taking : (Lane → List Parcel) → ℕ → Option Instr → ℕ → Bool
is_taking lanes r o s = (nat_eq s 0 && has_parcel lanes (half_lane r o)) || (nat_lt 0 s && keeps_half o)

-- no more far halves than the buffer has room for, and fewer unless the rank is taking one
pub record IsFarSound (lanes : Lane → List Parcel) (r : ℕ) (buffer : ℕ) (o : Option Instr) (s : ℕ) (far : Wires) : Type 0 where
  pub few : how_many far ≤ buffer
  pub room : is_taking lanes r o s ≡ false → how_many far < buffer

abbrev pub IsFarWell : Programs → Tables → ℕ → Type 0
IsFarWell p t r = IsFarSound t.lanes r (rank_of p r).buffer (current p t r) (t.parts r).stage (t.far r)

-- the count of a rank's halves is the size of its two sets
abbrev pub AreCounted : Tables → ℕ → Type 0
AreCounted t r = t.held r ≡ how_many (t.near r) + how_many (t.far r)

-- ---- all of it: tidy tables, in which each rank, each lane, the far halves and the counts of halves are as they should be. Only ranks
-- that there are have far halves, and a rank that keeps a half that it took has it in hand
pub record IsWell (p : Programs) (t : Tables) : Type 0 where
  pub tidy : IsTidy t
  pub ranks : (r : ℕ) → IsRankWell p t r
  pub lanes : (a : Lane) → IsLaneWell p t a
  pub far : (r : ℕ) → IsFarWell p t r
  pub far_known : (r : ℕ) → length p.ranks ≤ r → t.far r ≡ no_wires
  pub counted : (r : ℕ) → AreCounted t r
  pub held : (r : ℕ) → keeps_half (current p t r) ≡ true → nat_lt 0 (t.parts r).stage ≡ true → IsInHand t r (wire_of (t.parts r).taken)
