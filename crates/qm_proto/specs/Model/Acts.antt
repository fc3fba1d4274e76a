-- The acts of which events are made: what each does to the tables, and which letters it does
use Rattle.std.specs.Prelude.{ℕ, ◌+◌, ◌-◌, true, false, List, [], ◌∷◌, ◌++◌, Some, None, drop, slice_set}
use Rattle.qm_denot.specs.declared.Letter.{Letter}
use Rattle.qm_denot.specs.declared.Letter.TheVariants.{Pair, Take}
use Rattle.qm_denot.specs.Wires.{put}
use Rattle.qm_denot.specs.Parcels.{filled}
use Rattle.qm_proto.specs.declared.Act.{Act}
use Rattle.qm_proto.specs.declared.Act.TheVariants.{Fresh, Twin, Apply, SlotOut, NearOut, FarOut, Settle, Posts, Fills, Receives, OwnUsed, ProtocolUsed, FirstKept, BitSet}
use Rattle.qm_proto.specs.declared.Few.{Few}
use Rattle.qm_proto.specs.declared.Few.TheVariants.{Empty, One, Two, Three}
use Rattle.qm_proto.specs.Model.State.{Part, Tables, with_at, with_slot, with_lane, with_part, wire_in, far_made, near_made, near_last, front}

-- a list of at most three
abbrev pub list_of : {A : Type 0} → Few A → List A
list_of Empty = []
list_of (One a) = a ∷ []
list_of (Two a b) = a ∷ b ∷ []
list_of (Three a b c) = a ∷ b ∷ c ∷ []

-- a rank that has counted one wire more
abbrev pub with_one_counted : Part → Part
with_one_counted x = record x { made = x.made + 1 }

-- counts with one more, and one less, at r
abbrev pub more_at : (ℕ → ℕ) → ℕ → (ℕ → ℕ)
more_at f r = with_at f r (f r + 1)

abbrev pub less_at : (ℕ → ℕ) → ℕ → (ℕ → ℕ)
less_at f r = with_at f r (f r - 1)

-- the tables after an act of rank r
abbrev pub after_act : ℕ → Act → Tables → Tables
after_act r (Fresh q) t =
    record t { parts = with_at t.parts r (with_one_counted (t.parts r)); slots = with_slot t.slots r q (Some (far_made t r)) }
after_act r (Twin to) t =
    record t {
      parts = with_at t.parts r (with_one_counted (t.parts r));
      near = with_at t.near r (put (t.near r) (near_made t r) true);
      far = with_at t.far to (put (t.far to) (far_made t r) true);
      held = more_at (more_at t.held r) to;
    }
after_act r (Apply l) t = t
after_act r (SlotOut q m) t = record t { slots = with_slot t.slots r q None }
after_act r (NearOut m) t = record t { near = with_at t.near r (put (t.near r) (near_last t r) false); held = less_at t.held r }
after_act r (FarOut f m) t = record t { far = with_at t.far r (put (t.far r) f false); held = less_at t.held r }
after_act r (Settle f q) t =
    record t { slots = with_slot t.slots r q (Some f); far = with_at t.far r (put (t.far r) f false); held = less_at t.held r }
after_act r (Posts a x) t = record t { lanes = with_lane t.lanes a (t.lanes a ++ x ∷ []) }
after_act r (Fills a b) t = record t { lanes = with_lane t.lanes a (filled (t.lanes a) b) }
after_act r (Receives a) t =
    record t {
      parts = with_at t.parts r (record (t.parts r) { taken = front t a });
      lanes = with_lane t.lanes a (drop 1 (t.lanes a));
    }
after_act r OwnUsed t = with_part t r (record (t.parts r) { own = drop 1 (t.parts r).own })
after_act r ProtocolUsed t = with_part t r (record (t.parts r) { protocol = drop 1 (t.parts r).protocol })
after_act r (FirstKept m) t = with_part t r (record (t.parts r) { first = m })
after_act r (BitSet b v) t = with_part t r (record (t.parts r) { bits = slice_set (t.parts r).bits b v })

-- the letters of an act of rank r
abbrev pub act_letters : ℕ → Act → Tables → List Letter
act_letters r (Twin to) t = Pair (near_made t r) (far_made t r) ∷ []
act_letters r (Apply l) t = l ∷ []
act_letters r (SlotOut q m) t = Take (wire_in t r q) m ∷ []
act_letters r (NearOut m) t = Take (near_last t r) m ∷ []
act_letters r (FarOut f m) t = Take f m ∷ []
act_letters r _ t = []

-- the tables after the acts of a list
abbrev pub after_acts : ℕ → List Act → Tables → Tables
after_acts r [] t = t
after_acts r (a ∷ acts) t = after_acts r acts (after_act r a t)

-- the letters of the acts of a list, each as the tables stand when its turn comes
abbrev pub acts_letters : ℕ → List Act → Tables → List Letter
acts_letters r [] t = []
acts_letters r (a ∷ acts) t = act_letters r a t ++ acts_letters r acts (after_act r a t)
