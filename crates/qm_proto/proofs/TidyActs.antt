-- Every act keeps the tables tidy, and what tidy tables give the next act
use Rattle.std.proofs.Common.{◌≡◌, ℕ, ◌+◌, ◌<◌, ◌≤◌, true, false, Some, None, List, [], ◌∷◌, drop, slice_set, inl, inr, refl, sym, ap, subst, arith}
use Rattle.std.proofs.lemmas.Option.{same_Some}
use Rattle.qm_denot.specs.declared.Wire.{Wire}
use Rattle.qm_denot.specs.Wires.{no_wires, has, put}
use Rattle.qm_denot.proofs.Sets.{has-no_wires}
use Rattle.qm_instr.specs.declared.Lane.{Lane}
use Rattle.qm_instr.specs.Programs.{Programs}
use Rattle.qm_proto.specs.Model.State.{Part, Tables, with_at, with_part, front, far_made, near_made, near_last}
use Rattle.qm_proto.specs.declared.Act.{Act}
use Rattle.qm_proto.specs.declared.Act.TheVariants.{Fresh, Twin, Apply, SlotOut, NearOut, FarOut, Settle, Posts, Fills, Receives, OwnUsed, ProtocolUsed, FirstKept, BitSet}
use Rattle.qm_proto.specs.Model.Acts.{with_one_counted, more_at, less_at, after_act, after_acts}
use Rattle.qm_proto.specs.Model.Rows.{half_parcel}
use Rattle.qm_proto.specs.Model.Schedules.{tables_at_start}
use Rattle.qm_proto.specs.Model.Places.{Place, InSlot, NearOf, FarOf, IsAt, IsPlaced, IsOnlyAt}
use Rattle.qm_proto.specs.May.{MaySettle}
use Rattle.qm_proto.specs.Model.Tidy.{IsTidy, IsPostable, IsInHand, KeepsTidy}
use Rattle.qm_proto.proofs.Changes.{by_rank, with_at-here}
use Rattle.qm_proto.proofs.TidyPlaces.{lacks_gone, has_new}
use Rattle.qm_proto.proofs.TidyChanges.{near_more, near_less, far_more, far_less, slot_changed, tidy_counts, before_near_more, before_far_less, tidy_parts, tidy_emptied, tidy_near_less, tidy_far_less, tidy_filled, tidy_near_more, tidy_far_more}
use Rattle.qm_proto.proofs.TidyLanes.{front_carried, tidy_filled_lane, tidy_pushed, tidy_taken, taken_free}

-- ---- what tidy tables say
pub only_at : (t : Tables) (w : Wire) (p : Place) → IsTidy t → IsAt t w p → IsOnlyAt t w p
only_at t w p tidy h = record { here = h; only = λ o k. tidy.one_place w o p k h }

-- a wire with a name that its rank has not counted has no place
pub uncounted_absent : (t : Tables) (w : Wire) → IsTidy t → (t.parts w.rank).made ≤ w.made → ¬ IsPlaced t w
uncounted_absent t w tidy high (o, h) = let low : w.made < (t.parts w.rank).made = tidy.counted w o h in omega arith

pub far_made_absent : (t : Tables) → IsTidy t → (r : ℕ) → ¬ IsPlaced t (far_made t r)
far_made_absent t tidy r = uncounted_absent t (far_made t r) tidy (omega arith)

pub near_made_absent : (t : Tables) → IsTidy t → (r : ℕ) → ¬ IsPlaced t (near_made t r)
near_made_absent t tidy r = uncounted_absent t (near_made t r) tidy (omega arith)

pub settle_may : (t : Tables) (r : ℕ) (f : Wire) (q : ℕ) → IsTidy t → IsInHand t r f → t.slots r q ≡ None → q < 16 → MaySettle r f q t
settle_may t r f q tidy hand empty slot = record { slot = slot; only = only_at t f (FarOf r) tidy hand.half; empty = empty }

-- ---- before the first event
pub tidy_at_start : (p : Programs) → IsTidy (tables_at_start p)
tidy_at_start p = record {
  one_place = λ w o q h k. absurd (nowhere w o h);
  counted = λ w o h. absurd (nowhere w o h);
  carried = λ a k w c. absurd (cc);
  carried_once = λ a b k j w c d. absurd (cc);
}
  where
    nowhere : (w : Wire) (o : Place) → ¬ IsAt (tables_at_start p) w o
    nowhere w (InSlot r q) h = cc
    nowhere w (NearOf r) h = let e : has no_wires w ≡ false = has-no_wires w in cc
    nowhere w (FarOf r) h = let e : has no_wires w ≡ false = has-no_wires w in cc

-- ---- another part of a rank
-- no count falls
pub tidy_part_above : (t : Tables) (r : ℕ) (x : Part) → IsTidy t → (t.parts r).made ≤ x.made → IsTidy (with_part t r x)
tidy_part_above t r x tidy above =
    tidy_parts t tidy (with_at t.parts r x)
    (λ k. by_rank (λ (y : Part). (t.parts k).made ≤ y.made) t.parts r x k
    (λ e. subst (λ j. (t.parts j).made ≤ x.made) (sym e) above) (λ _. omega arith))

pub tidy_part : (t : Tables) (r : ℕ) (x : Part) → IsTidy t → x.made ≡ (t.parts r).made → IsTidy (with_part t r x)
tidy_part t r x tidy e = tidy_part_above t r x tidy (omega arith)

-- ---- a wire is counted and comes to its place
module _ (r : ℕ) (t : Tables) (tidy : IsTidy t) where
  abbrev counting : Tables
  counting = with_part t r (with_one_counted (t.parts r))

  counted_more : (counting.parts r).made ≡ (t.parts r).made + 1
  counted_more = ap (λ (x : Part). x.made) (with_at-here t.parts r (with_one_counted (t.parts r)))

  tidy_counting : IsTidy counting
  tidy_counting = tidy_part_above t r (with_one_counted (t.parts r)) tidy (omega arith)

  still_absent : (w : Wire) → ¬ IsPlaced t w → ¬ IsPlaced counting w
  still_absent w absent (InSlot k p, h) = absent (InSlot k p, h)
  still_absent w absent (NearOf k, h) = absent (NearOf k, h)
  still_absent w absent (FarOf k, h) = absent (FarOf k, h)

  far_absent : ¬ IsPlaced counting (far_made t r)
  far_absent = still_absent (far_made t r) (far_made_absent t tidy r)

  near_absent : ¬ IsPlaced counting (near_made t r)
  near_absent = still_absent (near_made t r) (near_made_absent t tidy r)

  below : (t.parts r).made < (counting.parts r).made
  below = let e = counted_more in omega arith

  pub tidy_fresh : (q : ℕ) → IsTidy (after_act r (Fresh q) t)
  tidy_fresh q = tidy_filled counting tidy_counting (far_made t r) far_absent below r q

  far_after_near : ¬ IsPlaced (near_more counting r (near_made t r)) (far_made t r)
  far_after_near (o, h) = elim (before_near_more counting r (near_made t r) (far_made t r) o h) [
    | inl old ↦ far_absent (o, old)
    | inr new ↦ let e = new.0 in let n : false ≡ true = ap (λ (w : Wire). w.near) e in cc
  ]

  abbrev pub twin_places : ℕ → Tables
  twin_places to = far_more (near_more counting r (near_made t r)) to (far_made t r)

  pub tidy_twin : (to : ℕ) → IsTidy (twin_places to)
  tidy_twin to =
      let near = tidy_near_more counting tidy_counting (near_made t r) near_absent below r in
      tidy_far_more (near_more counting r (near_made t r)) near (far_made t r) far_after_near below to

-- a half in hand that goes into a slot
tidy_settled : (r : ℕ) (f : Wire) (q : ℕ) (t : Tables) → IsTidy t → IsInHand t r f → IsTidy (slot_changed (far_less t r f) r q (Some f))
tidy_settled r f q t tidy hand =
    let less = tidy_far_less t tidy r f hand.free in
    let below : f.made < (t.parts f.rank).made = tidy.counted f (FarOf r) hand.half in
    tidy_filled (far_less t r f) less f gone below r q
  where
    gone : ¬ IsPlaced (far_less t r f) f
    gone (o, h) =
        let here : o ≡ FarOf r = tidy.one_place f o (FarOf r) (before_far_less t r f f o h) hand.half in
        let c : IsAt (far_less t r f) f (FarOf r) = subst (IsAt (far_less t r f) f) here h in
        let here : has (put (t.far r) f false) f ≡ true = subst (λ ws. has ws f ≡ true) (with_at-here t.far r (put (t.far r) f false)) c in
        let none = lacks_gone (t.far r) f in cc

-- ---- every act
pub tidy_done : (r : ℕ) (act : Act) (t : Tables) → IsTidy t → KeepsTidy r act t → IsTidy (after_act r act t)
tidy_done r (Fresh q) t tidy keeps = tidy_fresh r t tidy q
tidy_done r (Twin to) t tidy keeps = tidy_counts (twin_places r t tidy to) (more_at (more_at t.held r) to) (tidy_twin r t tidy to)
tidy_done r (Apply l) t tidy keeps = tidy
tidy_done r (SlotOut q m) t tidy keeps = tidy_emptied t tidy r q
tidy_done r (NearOut m) t tidy keeps = tidy_counts (near_less t r (near_last t r)) (less_at t.held r) (tidy_near_less t tidy r (near_last t r))
tidy_done r (FarOut f m) t tidy keeps = tidy_counts (far_less t r f) (less_at t.held r) (tidy_far_less t tidy r f keeps.free)
tidy_done r (Settle f q) t tidy keeps = tidy_counts (slot_changed (far_less t r f) r q (Some f)) (less_at t.held r) (tidy_settled r f q t tidy keeps.0)
tidy_done r (Posts a x) t tidy keeps = tidy_pushed t tidy a x keeps
tidy_done r (Fills a b) t tidy keeps = tidy_filled_lane t tidy a b
tidy_done r (Receives a) t tidy keeps =
    tidy_taken (with_part t r (record (t.parts r) { taken = front t a })) (tidy_part t r (record (t.parts r) { taken = front t a }) tidy refl) a
tidy_done r OwnUsed t tidy keeps = tidy_part t r (record (t.parts r) { own = drop 1 (t.parts r).own }) tidy refl
tidy_done r ProtocolUsed t tidy keeps = tidy_part t r (record (t.parts r) { protocol = drop 1 (t.parts r).protocol }) tidy refl
tidy_done r (FirstKept m) t tidy keeps = tidy_part t r (record (t.parts r) { first = m }) tidy refl
tidy_done r (BitSet b v) t tidy keeps = tidy_part t r (record (t.parts r) { bits = slice_set (t.parts r).bits b v }) tidy refl

-- and acts one after another
abbrev pub AllKeepTidy : ℕ → List Act → Tables → Type 0
AllKeepTidy r [] t = Unit {0}
AllKeepTidy r (a ∷ acts) t = KeepsTidy r a t × AllKeepTidy r acts (after_act r a t)

pub tidy_all_done : (r : ℕ) (acts : List Act) (t : Tables) → IsTidy t → AllKeepTidy r acts t → IsTidy (after_acts r acts t)
tidy_all_done r [] t tidy keeps = tidy
tidy_all_done r (a ∷ acts) t tidy keeps = tidy_all_done r acts (after_act r a t) (tidy_done r a t tidy keeps.0) keeps.1

-- ---- what an act leaves for the next in its line of the table
-- a parcel that was received has its half in hand
pub received_in_hand : (t : Tables) (a : Lane) (f : Wire) → IsTidy t → (front t a).wire ≡ Some f → IsInHand (after_act a.to (Receives a) t) a.to f
received_in_hand t a f tidy e =
    record {
      half = tidy.carried a 0 f (front_carried t a f e);
      free = λ (c, k, h). taken_free t tidy a f e (c, k, record { parcel = h.parcel; there = h.there; wire = h.wire });
    }

-- the new far half may be posted to its rank
pub twin_postable : (r to : ℕ) (t : Tables) (a : Lane) → IsTidy t → a.to ≡ to → IsPostable (after_act r (Twin to) t) a (half_parcel (far_made t r))
twin_postable r to t a tidy e =
    record {
      half = λ w s. subst (λ v. has ((after_act r (Twin to) t).far a.to) v ≡ true) (same_Some (far_made t r) w s) there;
      free = λ w s (c, k, h). far_made_absent t tidy r (
        FarOf c.to,
        subst (λ v. has (t.far c.to) v ≡ true) (sym (same_Some (far_made t r) w s))
            (tidy.carried c k w (record { parcel = h.parcel; there = h.there; wire = h.wire })),
      );
    }
  where
    there : has ((after_act r (Twin to) t).far a.to) (far_made t r) ≡ true
    there = rw (e, with_at-here t.far to (put (t.far to) (far_made t r) true)) (has_new (t.far to) (far_made t r))
