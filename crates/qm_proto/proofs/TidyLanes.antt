-- Changes of lanes that keep tables tidy
use Rattle.std.proofs.Common.{◌≡◌, ◌≢◌, ℕ, zero, suc, ◌⊎◌, Bool, Some, List, [], ◌∷◌, ◌++◌, length, slice_get, slice_index_or, drop, inl, inr, refl, sym, ap, subst, ◌∙◌, arith, true}
use Rattle.qm_denot.specs.declared.Wire.{Wire}
use Rattle.qm_denot.specs.Wires.{has}
use Rattle.qm_instr.specs.declared.Lane.{Lane}
use Rattle.qm_denot.specs.declared.Parcel.{Parcel}
use Rattle.qm_proto.specs.Model.State.{Tables, with_lane, no_parcel, front}
use Rattle.qm_denot.specs.Parcels.{filled}
use Rattle.qm_proto.specs.Model.Places.{Place, InSlot, NearOf, FarOf, IsAt}
use Rattle.qm_proto.specs.Model.Tidy.{Carries, IsCarried, IsTidy, IsPostable}
use Rattle.qm_proto.proofs.Changes.{by_lane}

-- the tables with other parcels on lane a
abbrev pub lane_changed : Tables → Lane → List Parcel → Tables
lane_changed t a xs = record t { lanes = with_lane t.lanes a xs }

-- ---- which wires the parcels of a list carry
-- parcel number k of the list carries the wire
record CarriesIn (xs : List Parcel) (k : ℕ) (w : Wire) : Type 0 where
  parcel : Parcel
  there : slice_get xs k ≡ Some parcel
  wire : parcel.wire ≡ Some w

pushed_cases : (xs : List Parcel) (x : Parcel) (k : ℕ) (w : Wire) → CarriesIn (xs ++ x ∷ []) k w → CarriesIn xs k w ⊎ ((k ≡ length xs) × (x.wire ≡ Some w))
pushed_cases [] x zero w c = inr (refl, let e : x ≡ c.parcel = let h = c.there in cc in ap (λ (y : Parcel). y.wire) e ∙ c.wire)
pushed_cases [] x (suc k) w c = absurd (cc)
pushed_cases (y ∷ xs) x zero w c = inl (record { parcel = c.parcel; there = c.there; wire = c.wire })
pushed_cases (y ∷ xs) x (suc k) w c = elim (pushed_cases xs x k w (record { parcel = c.parcel; there = c.there; wire = c.wire })) [
  | inl old ↦ inl (record { parcel = old.parcel; there = old.there; wire = old.wire })
  | inr new ↦ inr (omega arith, new.1)
]

filled_carries : (xs : List Parcel) (b : Bool × Bool) (k : ℕ) (w : Wire) → CarriesIn (filled xs b) k w → CarriesIn xs k w
filled_carries [] b k w c = c
filled_carries (x ∷ []) b zero w c =
    record { parcel = x; there = refl; wire = let e : record x { bits = Some b } ≡ c.parcel = let h = c.there in cc in ap (λ (y : Parcel). y.wire) e ∙ c.wire }
filled_carries (x ∷ []) b (suc k) w c = absurd (cc)
filled_carries (x ∷ y ∷ xs) b zero w c = record { parcel = c.parcel; there = c.there; wire = c.wire }
filled_carries (x ∷ y ∷ xs) b (suc k) w c =
    let old = filled_carries (y ∷ xs) b k w (record { parcel = c.parcel; there = c.there; wire = c.wire }) in
    record { parcel = old.parcel; there = old.there; wire = old.wire }

rest_carries : (xs : List Parcel) (k : ℕ) (w : Wire) → CarriesIn (drop 1 xs) k w → CarriesIn xs (suc k) w
rest_carries [] k w c = absurd (cc)
rest_carries (x ∷ xs) k w c = record { parcel = c.parcel; there = c.there; wire = c.wire }

front_carries : (xs : List Parcel) (w : Wire) → (slice_index_or xs 0 no_parcel).wire ≡ Some w → CarriesIn xs 0 w
front_carries [] w e = absurd (cc)
front_carries (x ∷ xs) w e = record { parcel = x; there = refl; wire = e }

in_list : (t : Tables) (a : Lane) (k : ℕ) (w : Wire) → Carries t a k w → CarriesIn (t.lanes a) k w
in_list t a k w c = record { parcel = c.parcel; there = c.there; wire = c.wire }

on_lane : (t : Tables) (a : Lane) (k : ℕ) (w : Wire) → CarriesIn (t.lanes a) k w → Carries t a k w
on_lane t a k w c = record { parcel = c.parcel; there = c.there; wire = c.wire }

-- the front parcel carries its wire
pub front_carried : (t : Tables) (a : Lane) (w : Wire) → (front t a).wire ≡ Some w → Carries t a 0 w
front_carried t a w e = on_lane t a 0 w (front_carries (t.lanes a) w e)

module _ (t : Tables) (a : Lane) where
  -- a parcel more
  pub carried_before_push : (x : Parcel) (c : Lane) (k : ℕ) (w : Wire) → Carries (lane_changed t a (t.lanes a ++ x ∷ [])) c k w
      → Carries t c k w ⊎ ((c ≡ a) × (k ≡ length (t.lanes a)) × (x.wire ≡ Some w))
  carried_before_push x c k w h =
      by_lane (λ xs. CarriesIn xs k w → Carries t c k w ⊎ ((c ≡ a) × (k ≡ length (t.lanes a)) × (x.wire ≡ Some w)))
      t.lanes a (t.lanes a ++ x ∷ []) c
      (λ e i. elim (pushed_cases (t.lanes a) x k w i) [
        | inl old ↦ inl (on_lane t c k w (subst (λ b. CarriesIn (t.lanes b) k w) (sym e) old))
        | inr new ↦ inr (e, new.0, new.1)
      ])
      (λ _ i. inl (on_lane t c k w i))
      (in_list (lane_changed t a (t.lanes a ++ x ∷ [])) c k w h)

  -- bits in the last parcel
  pub carried_before_fill : (b : Bool × Bool) (c : Lane) (k : ℕ) (w : Wire) → Carries (lane_changed t a (filled (t.lanes a) b)) c k w → Carries t c k w
  carried_before_fill b c k w h =
      by_lane (λ xs. CarriesIn xs k w → Carries t c k w) t.lanes a (filled (t.lanes a) b) c
      (λ e i. on_lane t c k w (subst (λ d. CarriesIn (t.lanes d) k w) (sym e) (filled_carries (t.lanes a) b k w i)))
      (λ _ i. on_lane t c k w i)
      (in_list (lane_changed t a (filled (t.lanes a) b)) c k w h)

  -- the front parcel taken: on this lane each number was one more
  pub carried_before_take : (c : Lane) (k : ℕ) (w : Wire) → Carries (lane_changed t a (drop 1 (t.lanes a))) c k w
      → ((c ≡ a) × Carries t c (suc k) w) ⊎ ((c ≢ a) × Carries t c k w)
  carried_before_take c k w h =
      by_lane (λ xs. CarriesIn xs k w → ((c ≡ a) × Carries t c (suc k) w) ⊎ ((c ≢ a) × Carries t c k w)) t.lanes a (drop 1 (t.lanes a)) c
      (λ e i. inl (e, on_lane t c (suc k) w (subst (λ d. CarriesIn (t.lanes d) (suc k) w) (sym e) (rest_carries (t.lanes a) k w i))))
      (λ ne i. inr (ne, on_lane t c k w i))
      (in_list (lane_changed t a (drop 1 (t.lanes a))) c k w h)

-- ---- tidy tables stay tidy
module _ (t : Tables) (tidy : IsTidy t) (a : Lane) where
  same_place : (xs : List Parcel) (w : Wire) (o : Place) → IsAt (lane_changed t a xs) w o → IsAt t w o
  same_place xs w (InSlot k p) h = h
  same_place xs w (NearOf k) h = h
  same_place xs w (FarOf k) h = h

  tidy_lane : (xs : List Parcel) → ((c : Lane) (k : ℕ) (w : Wire) → Carries (lane_changed t a xs) c k w → has (t.far c.to) w ≡ true)
      → ((c d : Lane) (k j : ℕ) (w : Wire) → Carries (lane_changed t a xs) c k w → Carries (lane_changed t a xs) d j w → (c ≡ d) × (k ≡ j))
      → IsTidy (lane_changed t a xs)
  tidy_lane xs carried once = record {
    one_place = λ w p q h k. tidy.one_place w p q (same_place xs w p h) (same_place xs w q k);
    counted = λ w p h. tidy.counted w p (same_place xs w p h);
    carried = carried;
    carried_once = once;
  }

  pub tidy_filled_lane : (b : Bool × Bool) → IsTidy (lane_changed t a (filled (t.lanes a) b))
  tidy_filled_lane b =
      tidy_lane (filled (t.lanes a) b) (λ c k w h. tidy.carried c k w (carried_before_fill t a b c k w h))
      (λ c d k j w h i. tidy.carried_once c d k j w (carried_before_fill t a b c k w h) (carried_before_fill t a b d j w i))

  module _ (x : Parcel) (postable : IsPostable t a x) where
    carried_pushed : (c : Lane) (k : ℕ) (w : Wire) → Carries (lane_changed t a (t.lanes a ++ x ∷ [])) c k w → has (t.far c.to) w ≡ true
    carried_pushed c k w h = elim (carried_before_push t a x c k w h) [
      | inl old ↦ tidy.carried c k w old
      | inr new ↦ subst (λ (d : Lane). has (t.far d.to) w ≡ true) (sym new.0) (postable.half w new.2)
    ]

    once_pushed : (c d : Lane) (k j : ℕ) (w : Wire) → Carries (lane_changed t a (t.lanes a ++ x ∷ [])) c k w
        → Carries (lane_changed t a (t.lanes a ++ x ∷ [])) d j w → (c ≡ d) × (k ≡ j)
    once_pushed c d k j w h i = elim (carried_before_push t a x c k w h) [
      | inl old ↦ elim (carried_before_push t a x d j w i) [
        | inl other ↦ tidy.carried_once c d k j w old other
        | inr new ↦ absurd (postable.free w new.2 (c, k, old))
      ]
      | inr new ↦ elim (carried_before_push t a x d j w i) [
        | inl old ↦ absurd (postable.free w new.2 (d, j, old))
        | inr other ↦ (new.0 ∙ sym other.0, new.1 ∙ sym other.1)
      ]
    ]

    pub tidy_pushed : IsTidy (lane_changed t a (t.lanes a ++ x ∷ []))
    tidy_pushed = tidy_lane (t.lanes a ++ x ∷ []) carried_pushed once_pushed

  carried_taken : (c : Lane) (k : ℕ) (w : Wire) → Carries (lane_changed t a (drop 1 (t.lanes a))) c k w → has (t.far c.to) w ≡ true
  carried_taken c k w h = elim (carried_before_take t a c k w h) [ inl old ↦ tidy.carried c (suc k) w old.1 | inr old ↦ tidy.carried c k w old.1 ]

  once_taken : (c d : Lane) (k j : ℕ) (w : Wire) → Carries (lane_changed t a (drop 1 (t.lanes a))) c k w
      → Carries (lane_changed t a (drop 1 (t.lanes a))) d j w → (c ≡ d) × (k ≡ j)
  once_taken c d k j w h i = elim (carried_before_take t a c k w h) [
    | inl one ↦ elim (carried_before_take t a d j w i) [
      | inl two ↦ let s = tidy.carried_once c d (suc k) (suc j) w one.1 two.1 in (s.0, let e = s.1 in omega arith)
      | inr two ↦ absurd (two.0 (sym (tidy.carried_once c d (suc k) j w one.1 two.1).0 ∙ one.0))
    ]
    | inr one ↦ elim (carried_before_take t a d j w i) [
      | inl two ↦ absurd (one.0 ((tidy.carried_once c d k (suc j) w one.1 two.1).0 ∙ two.0))
      | inr two ↦ tidy.carried_once c d k j w one.1 two.1
    ]
  ]

  pub tidy_taken : IsTidy (lane_changed t a (drop 1 (t.lanes a)))
  tidy_taken = tidy_lane (drop 1 (t.lanes a)) carried_taken once_taken

  -- no parcel that is left carries the wire of the one that was taken
  pub taken_free : (f : Wire) → (front t a).wire ≡ Some f → ¬ IsCarried (lane_changed t a (drop 1 (t.lanes a))) f
  taken_free f e (c, k, h) =
      let first = front_carried t a f e in
      elim (carried_before_take t a c k f h) [
        | inl old ↦ let n = (tidy.carried_once a c 0 (suc k) f first old.1).1 in absurd (omega arith)
        | inr old ↦ old.0 (sym (tidy.carried_once a c 0 k f first old.1).0)
      ]
