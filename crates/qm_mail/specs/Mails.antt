-- The mail: the known lanes, each once, with their parcels
use Rattle.std.specs.Prelude.{◌≡◌, ℕ, Bool, true, false, ◌||◌, if◌then◌else◌, List, [], ◌∷◌, Option, Some, None, IsSome}
use Rattle.std.specs.declared.cmp.Ordering.TheVariants.{Less}
use Rattle.qm_denot.specs.declared.Parcel.{Parcel}
use Rattle.qm_instr.specs.declared.Lane.{Lane}
use Rattle.qm_instr.specs.Lanes.{lane_order, is_lane}
use Rattle.qm_check.specs.declared.LaneCount.{LaneCount}

-- a lane, its parcels, the front one first, and how many are sent on it in all
pub record MailLane : Type 0 where
  pub lane : Lane
  pub parcels : List Parcel
  pub sends : ℕ

-- the parcels on a lane; on a lane that isn't known there are none
abbrev pub parcels_on : List MailLane → Lane → List Parcel
parcels_on [] a = []
parcels_on (x ∷ xs) a = if is_lane a x.lane then x.parcels else parcels_on xs a

-- how many parcels are sent on a lane; on a lane that isn't known none
abbrev pub sends_on : List MailLane → Lane → ℕ
sends_on [] a = 0
sends_on (x ∷ xs) a = if is_lane a x.lane then x.sends else sends_on xs a

-- the mail with other parcels on a known lane
abbrev pub with_parcels : List MailLane → Lane → List Parcel → List MailLane
with_parcels [] a ys = []
with_parcels (x ∷ xs) a ys = if is_lane a x.lane then record x { parcels = ys } ∷ xs else x ∷ with_parcels xs a ys

-- whether a lane is known
abbrev pub has_lane : List MailLane → Lane → Bool
has_lane [] a = false
has_lane (x ∷ xs) a = is_lane a x.lane || has_lane xs a

-- the lane is known
abbrev pub HasLane : List MailLane → Lane → Type 0
HasLane m a = has_lane m a ≡ true

-- a lane without parcels
abbrev pub empty_lane : LaneCount → MailLane
empty_lane c = record { lane = c.lane; parcels = []; sends = c.sends }

-- a lane is below those of the list
abbrev pub IsBelowAll : Lane → List LaneCount → Type 0
IsBelowAll a [] = Unit {0}
IsBelowAll a (c ∷ cs) = (lane_order a c.lane ≡ Less) × IsBelowAll a cs

-- the lanes rise in their order
abbrev pub AreRising : List LaneCount → Type 0
AreRising [] = Unit {0}
AreRising (c ∷ cs) = IsBelowAll c.lane cs × AreRising cs

-- there is a parcel, and it has bits
abbrev pub HasBits : Option Parcel → Type 0
HasBits None = ⊥
HasBits (Some x) = IsSome x.bits
