-- Changes of the tables that keep each wire in one place
use Rattle.std.proofs.Common.{◌≡◌, ◌≢◌, ℕ, zero, suc, ◌<◌, ◌≤◌, ◌⊎◌, List, [], ◌∷◌, Contains, Bool, true, false, cond, inl, inr, refl, ap, sym, subst, ◌∙◌, arith}
use Rattle.qm_denot.specs.declared.Wire.{Wire}
use Rattle.qm_denot.specs.Wires.{Wires, is_wire, has, put}
use Rattle.qm_denot.specs.WireLists.{without_wire}
use Rattle.qm_denot.proofs.Sets.{same_from_is, is_wire_itself, is_wire_other, has-put}
use Rattle.qm_denot.proofs.NameLists.{Lacks-without_wire_itself}
use Rattle.qm_denot.proofs.LiveWires.{absent_where_lacked}
use Rattle.qm_instr.specs.declared.Lane.{Lane}
use Rattle.qm_proto.specs.Model.State.{Tables}
use Rattle.qm_proto.specs.Model.Places.{Place, IsAt, IsPlaced}
use Rattle.qm_proto.specs.Model.Tidy.{Carries, IsCarried, IsTidy}
use Rattle.qm_proto.proofs.Changes.{by_test}

-- ---- a list without one of its wires
Contains-rest : (ws : List Wire) (u v : Wire) → Contains ws v → Contains (u ∷ ws) v
Contains-rest ws u v h = (suc h.0, omega arith, h.2)

-- what the rests have to do with each other, the whole lists have
Contains-along : (us ws : List Wire) (u v : Wire) → (Contains us v → Contains ws v) → Contains (u ∷ us) v → Contains (u ∷ ws) v
Contains-along us ws u v rest (zero, below, is) = (zero, omega arith, is)
Contains-along us ws u v rest (suc k, below, is) = Contains-rest ws u v (rest (k, omega arith, is))

pub Contains-where_without_wire : (ws : List Wire) (w v : Wire) → Contains (without_wire ws w) v → Contains ws v
Contains-where_without_wire [] w v h = h
Contains-where_without_wire (u ∷ ws) w v h =
    let rest = Contains-where_without_wire ws w v in
    by_test (λ us. Contains us v → Contains (u ∷ ws) v) (is_wire u w) (without_wire ws w) (u ∷ without_wire ws w)
    (λ _ k. Contains-rest ws u v (rest k)) (λ _ k. Contains-along (without_wire ws w) ws u v rest k) h

pub Contains-without_wire : (ws : List Wire) (w v : Wire) → v ≢ w → Contains ws v → Contains (without_wire ws w) v
Contains-without_wire [] w v ne h = h
Contains-without_wire (u ∷ ws) w v ne (zero, below, is) =
    by_test (λ us. Contains us v) (is_wire u w) (without_wire ws w) (u ∷ without_wire ws w)
    (λ e. absurd (ne (sym is ∙ same_from_is u w e))) (λ _. (zero, omega arith, is))
Contains-without_wire (u ∷ ws) w v ne (suc k, below, is) =
    let rest = Contains-without_wire ws w v ne (k, omega arith, is) in
    by_test (λ us. Contains us v) (is_wire u w) (without_wire ws w) (u ∷ without_wire ws w)
    (λ _. rest) (λ _. Contains-rest (without_wire ws w) u v rest)

pub without_wire-lacks : (ws : List Wire) (w : Wire) → ¬ Contains (without_wire ws w) w
without_wire-lacks ws w = absent_where_lacked (without_wire ws w) w (Lacks-without_wire_itself ws w)

-- ---- a set with one wire more, and with one less
module _ (x : Wires) (w v : Wire) where
  pub has_cases : has (put x w true) v ≡ true → (has x v ≡ true) ⊎ (v ≡ w)
  has_cases h = by_is (is_wire v w) refl (sym (has-put x w true v) ∙ h)
    where
      by_is : (b : Bool) → is_wire v w ≡ b → cond b true (has x v) ≡ true → (has x v ≡ true) ⊎ (v ≡ w)
      by_is true e k = inr (same_from_is v w e)
      by_is false e k = inl k

  pub has_where_less : has (put x w false) v ≡ true → has x v ≡ true
  has_where_less h = by_is (is_wire v w) (sym (has-put x w false v) ∙ h)
    where
      by_is : (b : Bool) → cond b false (has x v) ≡ true → has x v ≡ true
      by_is true k = cc
      by_is false k = k

  pub has_more : has x v ≡ true → has (put x w true) v ≡ true
  has_more h = has-put x w true v ∙ by_is (is_wire v w)
    where
      by_is : (b : Bool) → cond b true (has x v) ≡ true
      by_is true = refl
      by_is false = h

  pub has_less : v ≢ w → has x v ≡ true → has (put x w false) v ≡ true
  has_less ne h = has-put x w false v ∙ ap (λ b. cond b false (has x v)) (is_wire_other v w ne) ∙ h

pub lacks_gone : (x : Wires) (w : Wire) → has (put x w false) w ≡ false
lacks_gone x w = has-put x w false w ∙ ap (λ b. cond b false (has x w)) (is_wire_itself w)

pub has_new : (x : Wires) (w : Wire) → has (put x w true) w ≡ true
has_new x w = has-put x w true w ∙ ap (λ b. cond b true (has x w)) (is_wire_itself w)

-- ---- tables with the same parcels
pub same_carried : (t u : Tables) (a : Lane) (k : ℕ) (w : Wire) → u.lanes a ≡ t.lanes a → Carries u a k w → Carries t a k w
same_carried t u a k w e c = record { parcel = c.parcel; there = rw (← e) c.there; wire = c.wire }

-- what the change of t to u keeps, but for the places: no count falls, the parcels stay, no list of halves gets a wire twice, and a
-- wire that a parcel carries stays where it is
pub record KeepsRest (t u : Tables) : Type 0 where
  pub made : (k : ℕ) → (t.parts k).made ≤ (u.parts k).made
  pub lanes : (a : Lane) → u.lanes a ≡ t.lanes a
  pub carried : (r : ℕ) (w : Wire) → IsCarried t w → has (t.far r) w ≡ true → has (u.far r) w ≡ true

module _ (t u : Tables) (tidy : IsTidy t) (keeps : KeepsRest t u) where
  same : (a : Lane) (k : ℕ) (w : Wire) → Carries u a k w → Carries t a k w
  same a k w = same_carried t u a k w (keeps.lanes a)

  carried_still : (a : Lane) (k : ℕ) (w : Wire) → Carries u a k w → has (u.far a.to) w ≡ true
  carried_still a k w c = let old = same a k w c in keeps.carried a.to w (a, k, old) (tidy.carried a k w old)

  once_still : (a b : Lane) (k j : ℕ) (w : Wire) → Carries u a k w → Carries u b j w → (a ≡ b) × (k ≡ j)
  once_still a b k j w c d = tidy.carried_once a b k j w (same a k w c) (same b j w d)

  counted_still : (w : Wire) (p : Place) → IsAt t w p → w.made < (u.parts w.rank).made
  counted_still w p h =
      let old : w.made < (t.parts w.rank).made = tidy.counted w p h in
      let more : (t.parts w.rank).made ≤ (u.parts w.rank).made = keeps.made w.rank in
      omega arith

  -- where no wire comes to a place
  pub tidy_where_gone : ((v : Wire) (o : Place) → IsAt u v o → IsAt t v o) → IsTidy u
  tidy_where_gone from = record {
    one_place = λ w p q h k. tidy.one_place w p q (from w p h) (from w q k);
    counted = λ w p h. counted_still w p (from w p h);
    carried = carried_still;
    carried_once = once_still;
  }

  -- where one wire comes to a place, which had none before
  module _ (w : Wire) (p : Place) (absent : ¬ IsPlaced t w) (counted : w.made < (u.parts w.rank).made)
      (from : (v : Wire) (o : Place) → IsAt u v o → IsAt t v o ⊎ ((v ≡ w) × (o ≡ p))) where
    not_old : {A : Type 0} (v : Wire) (o : Place) → v ≡ w → IsAt t v o → A
    not_old v o e h = absurd (absent (o, subst (λ x. IsAt t x o) e h))

    one_place_new : (v : Wire) (o q : Place) → IsAt u v o → IsAt u v q → o ≡ q
    one_place_new v o q h k = elim (from v o h) [
      | inl old ↦ elim (from v q k) [ inl same ↦ tidy.one_place v o q old same | inr new ↦ not_old v o new.0 old ]
      | inr new ↦ elim (from v q k) [ inl old ↦ not_old v q new.0 old | inr other ↦ new.1 ∙ sym other.1 ]
    ]

    counted_new : (v : Wire) (o : Place) → IsAt u v o → v.made < (u.parts v.rank).made
    counted_new v o h = elim (from v o h) [
      | inl old ↦ counted_still v o old
      | inr new ↦ subst (λ (x : Wire). x.made < (u.parts x.rank).made) (sym new.0) counted
    ]

    pub tidy_where_new : IsTidy u
    tidy_where_new = record {
      one_place = one_place_new;
      counted = counted_new;
      carried = carried_still;
      carried_once = once_still;
    }
