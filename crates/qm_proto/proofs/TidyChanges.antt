-- Each single change of slots, halves, counts and lanes keeps tables tidy
use Rattle.std.proofs.Common.{◌≡◌, ◌≢◌, ℕ, ◌<◌, ◌≤◌, ◌⊎◌, Option, Some, None, true, false, inl, inr, refl, sym, ap, subst, ◌∙◌, arith}
use Rattle.std.proofs.lemmas.Option.{same_Some}
use Rattle.qm_denot.specs.declared.Wire.{Wire}
use Rattle.qm_denot.specs.Wires.{Wires, has, put}
use Rattle.qm_proto.specs.Model.State.{Part, Tables, no_wire, with_at, with_slot}
use Rattle.qm_proto.specs.Model.Places.{Place, InSlot, NearOf, FarOf, IsAt, IsPlaced}
use Rattle.qm_proto.specs.Model.Tidy.{IsCarried, IsTidy}
use Rattle.qm_proto.proofs.Changes.{by_rank, by_slot}
use Rattle.qm_proto.proofs.TidyPlaces.{KeepsRest, tidy_where_gone, tidy_where_new, has_cases, has_where_less, has_more, has_less}

-- ---- the tables after each of them
abbrev pub slot_changed : Tables → ℕ → ℕ → Option Wire → Tables
slot_changed t r q o = record t { slots = with_slot t.slots r q o }

abbrev pub near_more : Tables → ℕ → Wire → Tables
near_more t r w = record t { near = with_at t.near r (put (t.near r) w true) }

abbrev pub far_more : Tables → ℕ → Wire → Tables
far_more t r w = record t { far = with_at t.far r (put (t.far r) w true) }

abbrev pub near_less : Tables → ℕ → Wire → Tables
near_less t r w = record t { near = with_at t.near r (put (t.near r) w false) }

abbrev pub far_less : Tables → ℕ → Wire → Tables
far_less t r w = record t { far = with_at t.far r (put (t.far r) w false) }

-- ---- which places were there before
module _ (t : Tables) (r : ℕ) (w v : Wire) where
  halves_before : (f : ℕ → Wires) (k : ℕ) → has (with_at f r (put (f r) w true) k) v ≡ true → (has (f k) v ≡ true) ⊎ ((v ≡ w) × (k ≡ r))
  halves_before f k h =
      by_rank (λ ws. has ws v ≡ true → (has (f k) v ≡ true) ⊎ ((v ≡ w) × (k ≡ r))) f r (put (f r) w true) k
      (λ e c. elim (has_cases (f r) w v c) [
        | inl old ↦ inl (subst (λ j. has (f j) v ≡ true) (sym e) old)
        | inr new ↦ inr (new, e)
      ])
      (λ _ c. inl c) h

  fewer_before : (f : ℕ → Wires) (k : ℕ) → has (with_at f r (put (f r) w false) k) v ≡ true → has (f k) v ≡ true
  fewer_before f k h =
      by_rank (λ ws. has ws v ≡ true → has (f k) v ≡ true) f r (put (f r) w false) k
      (λ e c. subst (λ j. has (f j) v ≡ true) (sym e) (has_where_less (f r) w v c)) (λ _ c. c) h

  pub before_filled : (q : ℕ) (o : Place) → IsAt (slot_changed t r q (Some w)) v o → IsAt t v o ⊎ ((v ≡ w) × (o ≡ InSlot r q))
  before_filled q (InSlot k p) h =
      by_slot (λ x. x ≡ Some v → (t.slots k p ≡ Some v) ⊎ ((v ≡ w) × (InSlot k p ≡ InSlot r q))) t.slots r q (Some w) k p
      (λ s e. inr (sym (same_Some w v e), ap (λ j. InSlot j p) s.rank ∙ ap (InSlot r) s.slot)) (λ _ e. inl e) h
  before_filled q (NearOf k) h = inl h
  before_filled q (FarOf k) h = inl h

  pub before_emptied : (q : ℕ) (o : Place) → IsAt (slot_changed t r q None) v o → IsAt t v o
  before_emptied q (InSlot k p) h =
      by_slot (λ x. x ≡ Some v → t.slots k p ≡ Some v) t.slots r q None k p (λ s e. absurd (cc)) (λ _ e. e) h
  before_emptied q (NearOf k) h = h
  before_emptied q (FarOf k) h = h

  pub before_near_more : (o : Place) → IsAt (near_more t r w) v o → IsAt t v o ⊎ ((v ≡ w) × (o ≡ NearOf r))
  before_near_more (InSlot k p) h = inl h
  before_near_more (NearOf k) h = elim (halves_before t.near k h) [ inl old ↦ inl old | inr new ↦ inr (new.0, ap NearOf new.1) ]
  before_near_more (FarOf k) h = inl h

  pub before_far_more : (o : Place) → IsAt (far_more t r w) v o → IsAt t v o ⊎ ((v ≡ w) × (o ≡ FarOf r))
  before_far_more (InSlot k p) h = inl h
  before_far_more (NearOf k) h = inl h
  before_far_more (FarOf k) h = elim (halves_before t.far k h) [ inl old ↦ inl old | inr new ↦ inr (new.0, ap FarOf new.1) ]

  pub before_near_less : (o : Place) → IsAt (near_less t r w) v o → IsAt t v o
  before_near_less (InSlot k p) h = h
  before_near_less (NearOf k) h = fewer_before t.near k h
  before_near_less (FarOf k) h = h

  pub before_far_less : (o : Place) → IsAt (far_less t r w) v o → IsAt t v o
  before_far_less (InSlot k p) h = h
  before_far_less (NearOf k) h = h
  before_far_less (FarOf k) h = fewer_before t.far k h

-- ---- the halves that stay
pub stays_more : (f : ℕ → Wires) (r : ℕ) (w v : Wire) (k : ℕ) → has (f k) v ≡ true → has (with_at f r (put (f r) w true) k) v ≡ true
stays_more f r w v k h =
    by_rank (λ ws. has ws v ≡ true) f r (put (f r) w true) k (λ e. has_more (f r) w v (subst (λ j. has (f j) v ≡ true) e h)) (λ _. h)

pub stays_less : (f : ℕ → Wires) (r : ℕ) (w v : Wire) (k : ℕ) → v ≢ w → has (f k) v ≡ true → has (with_at f r (put (f r) w false) k) v ≡ true
stays_less f r w v k ne h =
    by_rank (λ ws. has ws v ≡ true) f r (put (f r) w false) k (λ e. has_less (f r) w v ne (subst (λ j. has (f j) v ≡ true) e h)) (λ _. h)

-- counts have no say in it
pub tidy_counts : (t : Tables) (held : ℕ → ℕ) → IsTidy t → IsTidy (record t { held = held })
tidy_counts t held tidy =
    tidy_where_gone t (record t { held = held }) tidy (record { made = λ k. omega arith; lanes = λ a. refl; carried = λ r w c h. h }) back
  where
    back : (v : Wire) (o : Place) → IsAt (record t { held = held }) v o → IsAt t v o
    back v (InSlot k p) h = h
    back v (NearOf k) h = h
    back v (FarOf k) h = h

module _ (t : Tables) (tidy : IsTidy t) where
  still : (ps : ℕ → Part) (slots : ℕ → ℕ → Option Wire) → ((k : ℕ) → (t.parts k).made ≤ (ps k).made)
      → KeepsRest t (record t { parts = ps; slots = slots })
  still ps slots made = record { made = made; lanes = λ a. refl; carried = λ r w c h. h }

  same_place : (ps : ℕ → Part) (v : Wire) (o : Place) → IsAt (record t { parts = ps }) v o → IsAt t v o
  same_place ps v (InSlot k p) h = h
  same_place ps v (NearOf k) h = h
  same_place ps v (FarOf k) h = h

  -- parts change, and no count falls
  pub tidy_parts : (ps : ℕ → Part) → ((k : ℕ) → (t.parts k).made ≤ (ps k).made) → IsTidy (record t { parts = ps })
  tidy_parts ps made = tidy_where_gone t (record t { parts = ps }) tidy (still ps t.slots made) (same_place ps)

  pub tidy_emptied : (r q : ℕ) → IsTidy (slot_changed t r q None)
  tidy_emptied r q =
      tidy_where_gone t (slot_changed t r q None) tidy (still t.parts (with_slot t.slots r q None) (λ k. omega arith)) (λ v o h. before_emptied t r no_wire v q o h)

  pub tidy_near_less : (r : ℕ) (w : Wire) → IsTidy (near_less t r w)
  tidy_near_less r w =
      tidy_where_gone t (near_less t r w) tidy
      (record { made = λ k. omega arith; lanes = λ a. refl; carried = λ k v c h. h })
      (λ v. before_near_less t r w v)

  pub tidy_far_less : (r : ℕ) (w : Wire) → ¬ IsCarried t w → IsTidy (far_less t r w)
  tidy_far_less r w free =
      tidy_where_gone t (far_less t r w) tidy
      (record {
        made = λ k. omega arith;
        lanes = λ a. refl;
        carried = λ k v c h. stays_less t.far r w v k (λ e. free (subst (IsCarried t) e c)) h;
      })
      (λ v. before_far_less t r w v)

  -- a wire comes that has no place, and was counted before
  module _ (w : Wire) (absent : ¬ IsPlaced t w) (counted : w.made < (t.parts w.rank).made) where
    pub tidy_filled : (r q : ℕ) → IsTidy (slot_changed t r q (Some w))
    tidy_filled r q =
        tidy_where_new t (slot_changed t r q (Some w)) tidy (still t.parts (with_slot t.slots r q (Some w)) (λ k. omega arith)) w (InSlot r q) absent counted
        (λ v o h. before_filled t r w v q o h)

    pub tidy_near_more : (r : ℕ) → IsTidy (near_more t r w)
    tidy_near_more r =
        tidy_where_new t (near_more t r w) tidy
        (record {
          made = λ k. omega arith;
          lanes = λ a. refl;
          carried = λ k v c h. h;
        })
        w (NearOf r) absent counted (λ v. before_near_more t r w v)

    pub tidy_far_more : (r : ℕ) → IsTidy (far_more t r w)
    tidy_far_more r =
        tidy_where_new t (far_more t r w) tidy
        (record {
          made = λ k. omega arith;
          lanes = λ a. refl;
          carried = λ k v c h. stays_more t.far r w v k h;
        })
        w (FarOf r) absent counted (λ v. before_far_more t r w v)
