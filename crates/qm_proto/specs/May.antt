-- What an act needs so that code with bounded counters and tables can do it: what must be there for it, and how much room it takes
use Rattle.std.specs.Prelude.{◌≡◌, ◌≢◌, ℕ, ◌+◌, ◌-◌, ◌<◌, ◌≤◌, ◌^◌, List, [], ◌∷◌, None, length}
use Rattle.qm_denot.specs.declared.Wire.{Wire}
use Rattle.qm_denot.specs.Wires.{no_wires}
use Rattle.qm_denot.specs.declared.Letter.{Letter}
use Rattle.qm_denot.specs.declared.Letter.TheVariants.{Phase, Flip, Had, Cx, Cz, Pair, Keep, Take, Rename}
use Rattle.qm_limits.specs.declared.TheConstants.{SLOTS, MOST_HALVES, BITS}
use Rattle.qm_instr.specs.declared.Lane.{Lane}
use Rattle.qm_denot.specs.Parcels.{IsFillable}
use Rattle.qm_proto.specs.Model.State.{Tables, far_made, near_made, near_last, front}
use Rattle.qm_proto.specs.declared.Act.{Act}
use Rattle.qm_proto.specs.declared.Act.TheVariants.{Fresh, Twin, Apply, SlotOut, NearOut, FarOut, Settle, Posts, Fills, Receives, OwnUsed, ProtocolUsed, FirstKept, BitSet}
use Rattle.qm_proto.specs.Model.Acts.{after_act}
use Rattle.qm_proto.specs.declared.Check.{Check}
use Rattle.qm_proto.specs.declared.Check.TheVariants.{Possible, Zero, Equal, Fits}
use Rattle.qm_proto.specs.Model.Places.{Place, InSlot, NearOf, FarOf, IsPlaced, IsOnlyAt, IsOwn}

-- how many ranks there are, how many wires more a store has room for, how many parcels a lane may have, and how many letters more can be
-- counted
pub record Limits : Type 0 where
  pub ranks : ℕ
  pub wires : ℕ
  pub parcels : Lane → ℕ
  pub letters : ℕ

-- both wires have places, and they differ
pub record AreTwo (t : Tables) (c v : Wire) : Type 0 where
  pub first : IsPlaced t c
  pub second : IsPlaced t v
  pub differ : c ≢ v

-- both wires are rank r's own, and they differ
pub record AreOwnTwo (t : Tables) (r : ℕ) (c v : Wire) : Type 0 where
  pub first : IsOwn t r c
  pub second : IsOwn t r v
  pub differ : c ≢ v

-- the letter moves no wire, and its operands are rank r's own and differ
abbrev pub MayLetter : ℕ → Letter → Tables → Type 0
MayLetter r (Phase k w) t = (k < 8) × IsOwn t r w
MayLetter r (Flip w) t = IsOwn t r w
MayLetter r (Had w) t = IsOwn t r w
MayLetter r (Cx c v) t = AreOwnTwo t r c v
MayLetter r (Cz c v) t = AreOwnTwo t r c v
MayLetter r (Pair a b) t = ⊥
MayLetter r (Keep w m) t = IsOwn t r w
MayLetter r (Take w m) t = ⊥
MayLetter r (Rename a b) t = ⊥

-- slot q of rank r is empty, the wire that the rank's count names has no place, and there is room for it
pub record MayFresh (s : Limits) (r q : ℕ) (t : Tables) : Type 0 where
  pub slot : q < SLOTS
  pub empty : t.slots r q ≡ None
  pub absent : ¬ IsPlaced t (far_made t r)
  pub room : 1 ≤ s.wires
  pub countable : (t.parts r).made + 1 < 2 ^ 32

-- the receiver is a rank and has fewer halves than a buffer may hold; the rank has no near half; the new halves have no places, and there
-- is room for both
pub record MayTwin (s : Limits) (r to : ℕ) (t : Tables) : Type 0 where
  pub known : to < s.ranks
  pub alone : t.near r ≡ no_wires
  pub few : t.held to < MOST_HALVES
  pub near_absent : ¬ IsPlaced t (near_made t r)
  pub far_absent : ¬ IsPlaced t (far_made t r)
  pub room : 2 ≤ s.wires
  pub countable : (t.parts r).made + 1 < 2 ^ 32
  pub letter : 1 ≤ s.letters

-- a wire is in slot q of rank r, and nowhere else
pub record MaySlotOut (s : Limits) (r q : ℕ) (t : Tables) : Type 0 where
  pub slot : q < SLOTS
  pub wire : Wire
  pub only : IsOnlyAt t wire (InSlot r q)
  pub letter : 1 ≤ s.letters

-- the half is there and nowhere else
pub record MayHalfOut (s : Limits) (w : Wire) (p : Place) (t : Tables) : Type 0 where
  pub only : IsOnlyAt t w p
  pub letter : 1 ≤ s.letters

-- f is a far half of rank r and nowhere else, and slot q is empty
pub record MaySettle (r : ℕ) (f : Wire) (q : ℕ) (t : Tables) : Type 0 where
  pub slot : q < SLOTS
  pub only : IsOnlyAt t f (FarOf r)
  pub empty : t.slots r q ≡ None

-- rank r may do the act
abbrev pub MayDoAct : Limits → ℕ → Act → Tables → Type 0
MayDoAct s r (Fresh q) t = MayFresh s r q t
MayDoAct s r (Twin to) t = MayTwin s r to t
MayDoAct s r (Apply l) t = MayLetter r l t × (1 ≤ s.letters)
MayDoAct s r (SlotOut q m) t = MaySlotOut s r q t
MayDoAct s r (NearOut m) t = MayHalfOut s (near_last t r) (NearOf r) t
MayDoAct s r (FarOut f m) t = MayHalfOut s f (FarOf r) t
MayDoAct s r (Settle f q) t = MaySettle r f q t
MayDoAct s r (Posts a x) t = length (t.lanes a) < s.parcels a
MayDoAct s r (Fills a b) t = IsFillable (t.lanes a)
MayDoAct s r (Receives a) t = (front t a).bits ≢ None
MayDoAct s r OwnUsed t = 0 < length (t.parts r).own
MayDoAct s r ProtocolUsed t = 0 < length (t.parts r).protocol
MayDoAct s r (FirstKept m) t = Unit {0}
MayDoAct s r (BitSet b v) t = b < BITS

-- what an act leaves of the limits
abbrev pub limits_after : Act → Limits → Limits
limits_after (Fresh q) s = record s { wires = s.wires - 1 }
limits_after (Twin to) s = record s { wires = s.wires - 2; letters = s.letters - 1 }
limits_after (Apply l) s = record s { letters = s.letters - 1 }
limits_after (SlotOut q m) s = record s { wires = s.wires + 1; letters = s.letters - 1 }
limits_after (NearOut m) s = record s { wires = s.wires + 1; letters = s.letters - 1 }
limits_after (FarOut f m) s = record s { wires = s.wires + 1; letters = s.letters - 1 }
limits_after _ s = s

abbrev pub limits_after_all : List Act → Limits → Limits
limits_after_all [] s = s
limits_after_all (a ∷ acts) s = limits_after_all acts (limits_after a s)

-- rank r may do the acts, one after another
abbrev pub AllMay : Limits → ℕ → List Act → Tables → Type 0
AllMay s r [] t = Unit {0}
AllMay s r (a ∷ acts) t = MayDoAct s r a t × AllMay (limits_after a s) r acts (after_act r a t)

-- the wires of a test have places, and differ
abbrev pub MayCheck : Tables → Check → Type 0
MayCheck t (Possible w m) = IsPlaced t w
MayCheck t (Zero w) = IsPlaced t w
MayCheck t (Equal w v) = AreTwo t w v
MayCheck t (Fits w) = IsPlaced t w

abbrev pub AllMayCheck : Tables → List Check → Type 0
AllMayCheck t [] = Unit {0}
AllMayCheck t (k ∷ ks) = MayCheck t k × AllMayCheck t ks
