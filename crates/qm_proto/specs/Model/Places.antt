-- Where wires are, and whose they are
use Rattle.std.specs.Prelude.{◌≡◌, ℕ, Some, true}
use Rattle.qm_denot.specs.declared.Wire.{Wire}
use Rattle.qm_denot.specs.Wires.{has}
use Rattle.qm_proto.specs.Model.State.{Tables}

-- a place of a wire
pub data Place : Type 0 where
  InSlot : (r q : ℕ) → Place  -- slot q of rank r
  NearOf : (r : ℕ) → Place  -- among the near halves of rank r
  FarOf : (r : ℕ) → Place  -- among the far halves of rank r, which is the receiver

-- the wire is at the place
abbrev pub IsAt : Tables → Wire → Place → Type 0
IsAt t w (InSlot r q) = t.slots r q ≡ Some w
IsAt t w (NearOf r) = has (t.near r) w ≡ true
IsAt t w (FarOf r) = has (t.far r) w ≡ true

-- the wire has a place
abbrev pub IsPlaced : Tables → Wire → Type 0
IsPlaced t w = (p : Place) × IsAt t w p

-- the wire is there and nowhere else
pub record IsOnlyAt (t : Tables) (w : Wire) (p : Place) : Type 0 where
  pub here : IsAt t w p
  pub only : (o : Place) → IsAt t w o → o ≡ p

-- the rank at which a place is
abbrev pub rank_at : Place → ℕ
rank_at (InSlot r q) = r
rank_at (NearOf r) = r
rank_at (FarOf r) = r

-- the wire is one of rank r's own: in one of its slots, or one of its halves
abbrev pub IsOwn : Tables → ℕ → Wire → Type 0
IsOwn t r w = (p : Place) × IsAt t w p × (rank_at p ≡ r)
