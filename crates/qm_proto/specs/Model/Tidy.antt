-- Tables in which each wire has one place: what every act keeps
use Rattle.std.specs.Prelude.{◌≡◌, ℕ, ◌<◌, Some, None, true, slice_get}
use Rattle.qm_denot.specs.declared.Wire.{Wire}
use Rattle.qm_denot.specs.Wires.{has}
use Rattle.qm_instr.specs.declared.Lane.{Lane}
use Rattle.qm_denot.specs.declared.Parcel.{Parcel}
use Rattle.qm_proto.specs.Model.State.{Tables}
use Rattle.qm_proto.specs.declared.Act.{Act}
use Rattle.qm_proto.specs.declared.Act.TheVariants.{Fresh, FarOut, Settle, Posts}
use Rattle.qm_proto.specs.Model.Places.{Place, IsAt}

-- parcel number k of lane a carries the wire
pub record Carries (t : Tables) (a : Lane) (k : ℕ) (w : Wire) : Type 0 where
  pub parcel : Parcel
  pub there : slice_get (t.lanes a) k ≡ Some parcel
  pub wire : parcel.wire ≡ Some w

-- some parcel carries the wire
abbrev pub IsCarried : Tables → Wire → Type 0
IsCarried t w = (a : Lane) × (k : ℕ) × Carries t a k w

-- a wire has at most one place, and was counted before by the rank of its name; a wire that a parcel
-- carries is a far half of the lane's receiver, and no other parcel carries it
pub record IsTidy (t : Tables) : Type 0 where
  pub one_place : (w : Wire) (p q : Place) → IsAt t w p → IsAt t w q → p ≡ q
  pub counted : (w : Wire) (p : Place) → IsAt t w p → w.made < (t.parts w.rank).made
  pub carried : (a : Lane) (k : ℕ) (w : Wire) → Carries t a k w → has (t.far a.to) w ≡ true
  pub carried_once : (a b : Lane) (k j : ℕ) (w : Wire) → Carries t a k w → Carries t b j w → (a ≡ b) × (k ≡ j)

-- the parcel carries no wire, or a far half of the lane's receiver that no other parcel carries
pub record IsPostable (t : Tables) (a : Lane) (x : Parcel) : Type 0 where
  pub half : (w : Wire) → x.wire ≡ Some w → has (t.far a.to) w ≡ true
  pub free : (w : Wire) → x.wire ≡ Some w → ¬ IsCarried t w

-- f is a far half of rank r that no parcel carries
pub record IsInHand (t : Tables) (r : ℕ) (f : Wire) : Type 0 where
  pub half : has (t.far r) f ≡ true
  pub free : ¬ IsCarried t f

-- what an act of rank r must find so that tidy tables stay tidy
abbrev pub KeepsTidy : ℕ → Act → Tables → Type 0
KeepsTidy r (Fresh q) t = t.slots r q ≡ None
KeepsTidy r (FarOut f m) t = IsInHand t r f
KeepsTidy r (Settle f q) t = IsInHand t r f × (t.slots r q ≡ None)
KeepsTidy r (Posts a x) t = IsPostable t a x
KeepsTidy r _ t = Unit {0}
