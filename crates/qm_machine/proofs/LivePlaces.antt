-- The live wires stay the placed ones where wires come to places, leave them, and move
use Rattle.std.proofs.Common.{◌≡◌, ◌≢◌, ◌↔◌, ◌⊎◌, ℕ, zero, suc, ◌+◌, true, false, Some, None, List, [], ◌∷◌, ◌++◌, length, Contains, inl, inr, refl, sym, ap, subst, ◌∙◌, arith}
use Rattle.std.proofs.lemmas.List.Elements.{Contains-push, Contains-push_cases, Contains-append_left}
use Rattle.std.proofs.lemmas.Option.{same_Some}
use Rattle.qm_denot.specs.declared.Wire.{Wire}
use Rattle.qm_denot.specs.Wires.{is_wire, has, put}
use Rattle.qm_denot.specs.WireLists.{Distinct, Lacks, without_wire}
use Rattle.qm_denot.proofs.Sets.{same_from_is, is_wire_itself}
use Rattle.qm_denot.proofs.NameLists.{without_wire-lacked}
use Rattle.qm_instr.specs.declared.Lane.{Lane}
use Rattle.qm_denot.specs.declared.Parcel.{Parcel}
use Rattle.qm_proto.specs.Model.State.{Part, Tables}
use Rattle.qm_proto.specs.Model.Places.{Place, InSlot, NearOf, FarOf, IsAt, IsPlaced, IsOnlyAt}
use Rattle.qm_proto.proofs.Changes.{by_slot, with_at-here, with_slot-here}
use Rattle.qm_proto.proofs.TidyPlaces.{Contains-where_without_wire, Contains-without_wire, without_wire-lacks, has_new, lacks_gone}
use Rattle.qm_proto.proofs.TidyChanges.{slot_changed, near_more, far_more, near_less, far_less, before_filled, before_emptied, before_near_more, before_far_more, before_near_less, before_far_less, stays_more, stays_less}

-- the live wires are the placed ones
abbrev pub AreLive : List Wire → Tables → Type 0
AreLive ws t = (v : Wire) → Contains ws v ↔ IsPlaced t v

-- ---- parts, counts and lanes have no say in it
module _ (t : Tables) (parts : ℕ → Part) (held : ℕ → ℕ) (lanes : Lane → List Parcel) (v : Wire) where
  abbrev beside : Tables
  beside = record t { parts = parts; held = held; lanes = lanes }

  there : (o : Place) → IsAt t v o → IsAt beside v o
  there (InSlot r q) h = h
  there (NearOf r) h = h
  there (FarOf r) h = h

  back : (o : Place) → IsAt beside v o → IsAt t v o
  back (InSlot r q) h = h
  back (NearOf r) h = h
  back (FarOf r) h = h

pub live_beside : (t : Tables) (parts : ℕ → Part) (held : ℕ → ℕ) (lanes : Lane → List Parcel) (ws : List Wire)
    → AreLive ws t → AreLive ws (record t { parts = parts; held = held; lanes = lanes })
live_beside t parts held lanes ws live v =
    ((λ h. let p = (live v).0 h in (p.0, there t parts held lanes v p.0 p.1)), (λ (o, h). (live v).1 (o, back t parts held lanes v o h)))

-- ---- a wire comes to a place, and every other stays where it is
pub record Comes (t u : Tables) (w : Wire) (p : Place) : Type 0 where
  pub before : (v : Wire) (o : Place) → IsAt u v o → IsAt t v o ⊎ ((v ≡ w) × (o ≡ p))
  pub after : (v : Wire) (o : Place) → IsAt t v o → IsAt u v o
  pub here : IsAt u w p

pub live_more : (t u : Tables) (w : Wire) (p : Place) (ws : List Wire) → Comes t u w p → AreLive ws t → AreLive (ws ++ w ∷ []) u
live_more t u w p ws comes live v = (
  λ h. elim (Contains-push_cases ws w v h) [
    | inl old ↦ let at = (live v).0 old in (at.0, comes.after v at.0 at.1)
    | inr new ↦ (p, subst (λ x. IsAt u x p) new comes.here)
  ],
  λ (o, h). elim (comes.before v o h) [
    | inl old ↦ Contains-append_left ws (w ∷ []) v ((live v).1 (o, old))
    | inr new ↦ subst (Contains (ws ++ w ∷ [])) (sym new.0) (Contains-push ws w)
  ],
)

-- an empty slot is filled
pub slot_comes : (t : Tables) (r q : ℕ) (w : Wire) → t.slots r q ≡ None → Comes t (slot_changed t r q (Some w)) w (InSlot r q)
slot_comes t r q w empty = record {
  before = λ v. before_filled t r w v q;
  after = after;
  here = with_slot-here t.slots r q (Some w);
}
  where
    after : (v : Wire) (o : Place) → IsAt t v o → IsAt (slot_changed t r q (Some w)) v o
    after v (InSlot k p) h =
        by_slot (λ x. x ≡ Some v) t.slots r q (Some w) k p
        (λ s. absurd (let e = ap (λ j. t.slots j p) (sym s.rank) ∙ h in let f = ap (t.slots r) (sym s.slot) ∙ e in let n : ⊥ = cc in n))
        (λ _. h)
    after v (NearOf k) h = h
    after v (FarOf k) h = h

pub near_comes : (t : Tables) (r : ℕ) (w : Wire) → Comes t (near_more t r w) w (NearOf r)
near_comes t r w = record {
  before = λ v. before_near_more t r w v;
  after = after;
  here = subst (λ x. has x w ≡ true) (sym (with_at-here t.near r (put (t.near r) w true))) (has_new (t.near r) w);
}
  where
    after : (v : Wire) (o : Place) → IsAt t v o → IsAt (near_more t r w) v o
    after v (InSlot k p) h = h
    after v (NearOf k) h = stays_more t.near r w v k h
    after v (FarOf k) h = h

pub far_comes : (t : Tables) (r : ℕ) (w : Wire) → Comes t (far_more t r w) w (FarOf r)
far_comes t r w = record {
  before = λ v. before_far_more t r w v;
  after = after;
  here = subst (λ x. has x w ≡ true) (sym (with_at-here t.far r (put (t.far r) w true))) (has_new (t.far r) w);
}
  where
    after : (v : Wire) (o : Place) → IsAt t v o → IsAt (far_more t r w) v o
    after v (InSlot k p) h = h
    after v (NearOf k) h = h
    after v (FarOf k) h = stays_more t.far r w v k h

-- ---- a wire leaves its only place, and every other stays where it is
pub record Leaves (t u : Tables) (w : Wire) : Type 0 where
  pub before : (v : Wire) (o : Place) → IsAt u v o → IsAt t v o
  pub after : (v : Wire) (o : Place) → v ≢ w → IsAt t v o → IsAt u v o
  pub gone : ¬ (IsPlaced u w)

pub live_less : (t u : Tables) (w : Wire) (ws : List Wire) → Leaves t u w → AreLive ws t → AreLive (without_wire ws w) u
live_less t u w ws leaves live v = (
  λ h.
      let ne : v ≢ w = λ e. without_wire-lacks ws w (subst (Contains (without_wire ws w)) e h) in
      let at = (live v).0 (Contains-where_without_wire ws w v h) in (at.0, leaves.after v at.0 ne at.1),
  λ (o, h).
      let ne : v ≢ w = λ e. leaves.gone (o, subst (λ x. IsAt u x o) e h) in
      Contains-without_wire ws w v ne ((live v).1 (o, leaves.before v o h)),
)

pub near_leaves : (t : Tables) (r : ℕ) (w : Wire) → IsOnlyAt t w (NearOf r) → Leaves t (near_less t r w) w
near_leaves t r w only = record { before = λ v. before_near_less t r w v; after = after; gone = gone }
  where
    after : (v : Wire) (o : Place) → v ≢ w → IsAt t v o → IsAt (near_less t r w) v o
    after v (InSlot k p) ne h = h
    after v (NearOf k) ne h = stays_less t.near r w v k ne h
    after v (FarOf k) ne h = h

    gone : ¬ (IsPlaced (near_less t r w) w)
    gone (o, h) =
        let e : o ≡ NearOf r = only.only o (before_near_less t r w w o h) in
        let c = subst (IsAt (near_less t r w) w) e h in
        let still : has (put (t.near r) w false) w ≡ true = subst (λ x. has x w ≡ true) (with_at-here t.near r (put (t.near r) w false)) c in
        let lacks = lacks_gone (t.near r) w in cc

pub far_leaves : (t : Tables) (r : ℕ) (w : Wire) → IsOnlyAt t w (FarOf r) → Leaves t (far_less t r w) w
far_leaves t r w only = record { before = λ v. before_far_less t r w v; after = after; gone = gone }
  where
    after : (v : Wire) (o : Place) → v ≢ w → IsAt t v o → IsAt (far_less t r w) v o
    after v (InSlot k p) ne h = h
    after v (NearOf k) ne h = h
    after v (FarOf k) ne h = stays_less t.far r w v k ne h

    gone : ¬ (IsPlaced (far_less t r w) w)
    gone (o, h) =
        let e : o ≡ FarOf r = only.only o (before_far_less t r w w o h) in
        let c = subst (IsAt (far_less t r w) w) e h in
        let still : has (put (t.far r) w false) w ≡ true = subst (λ x. has x w ≡ true) (with_at-here t.far r (put (t.far r) w false)) c in
        let lacks = lacks_gone (t.far r) w in cc

pub slot_leaves : (t : Tables) (r q : ℕ) (w : Wire) → IsOnlyAt t w (InSlot r q) → Leaves t (slot_changed t r q None) w
slot_leaves t r q w only = record { before = λ v. before_emptied t r w v q; after = after; gone = gone }
  where
    after : (v : Wire) (o : Place) → v ≢ w → IsAt t v o → IsAt (slot_changed t r q None) v o
    after v (InSlot k p) ne h =
        by_slot (λ x. x ≡ Some v) t.slots r q None k p
        (λ s. absurd (ne (let e : Some v ≡ Some w = sym h ∙ ap (λ j. t.slots j p) s.rank ∙ ap (t.slots r) s.slot ∙ only.here in same_Some v w e)))
        (λ _. h)
    after v (NearOf k) ne h = h
    after v (FarOf k) ne h = h

    gone : ¬ (IsPlaced (slot_changed t r q None) w)
    gone (o, h) =
        let e : o ≡ InSlot r q = only.only o (before_emptied t r w w q o h) in
        let c = subst (IsAt (slot_changed t r q None) w) e h in
        let n : None ≡ Some w = sym (with_slot-here t.slots r q None) ∙ c in cc

-- ---- a wire moves
-- a list without a wire and with it at its end has the same wires
moved_to_end : (ws : List Wire) (w v : Wire) → Contains ws w → Contains (without_wire ws w ++ w ∷ []) v ↔ Contains ws v
moved_to_end ws w v has = (
  λ h. elim (Contains-push_cases (without_wire ws w) w v h) [
    | inl old ↦ Contains-where_without_wire ws w v old
    | inr new ↦ subst (Contains ws) new has
  ],
  λ h. elim (is_wire v w) as (λ b. is_wire v w ≡ b → Contains (without_wire ws w ++ w ∷ []) v) [
    | true ↦ λ e. subst (Contains (without_wire ws w ++ w ∷ [])) (sym (same_from_is v w e)) (Contains-push (without_wire ws w) w)
    | false ↦ λ e. Contains-append_left (without_wire ws w) (w ∷ []) v (Contains-without_wire ws w v (differ e) h)
  ] refl,
)
  where
    differ : is_wire v w ≡ false → v ≢ w
    differ e s = let h : is_wire w w ≡ false = subst (λ x. is_wire x w ≡ false) s e in let t = is_wire_itself w in cc

live_moved : (ws : List Wire) (w : Wire) (u : Tables) → Contains ws w → AreLive (without_wire ws w ++ w ∷ []) u → AreLive ws u
live_moved ws w u has live v =
    let same = moved_to_end ws w v has in
    ((λ h. (live v).0 (same.1 h)), (λ h. same.0 ((live v).1 h)))

-- a far half goes into an empty slot
pub live_settled : (t : Tables) (r q : ℕ) (f : Wire) (ws : List Wire) → IsOnlyAt t f (FarOf r) → t.slots r q ≡ None
    → AreLive ws t → AreLive ws (slot_changed (far_less t r f) r q (Some f))
live_settled t r q f ws only empty live =
    let u = far_less t r f in
    let n = slot_changed u r q (Some f) in
    let less = live_less t u f ws (far_leaves t r f only) live in
    live_moved ws f n ((live f).1 (FarOf r, only.here)) (live_more u n f (InSlot r q) (without_wire ws f) (slot_comes u r q f empty) less)

-- ---- how many there are
pub length-without_wire : (ws : List Wire) (w : Wire) → Distinct ws → Contains ws w → length (without_wire ws w) + 1 ≡ length ws
length-without_wire [] w once (k, below, is) = absurd (omega arith)
length-without_wire (v ∷ ws) w once has =
    elim (is_wire v w) as (λ b. is_wire v w ≡ b → length (without_wire (v ∷ ws) w) + 1 ≡ length (v ∷ ws)) [
      | true ↦ λ e.
          let same : v ≡ w = same_from_is v w e in
          let rest : without_wire ws w ≡ ws = without_wire-lacked ws w (subst (Lacks ws) same once.0) in
          rw (e, rest) (omega arith)
      | false ↦ λ e. rw e (let rest = length-without_wire ws w once.1 (later e has) in omega arith)
    ] refl
  where
    later : is_wire v w ≡ false → Contains (v ∷ ws) w → Contains ws w
    later e (zero, below, is) = absurd (let t = subst (λ x. is_wire v x ≡ true) is (is_wire_itself v) in let n : ⊥ = cc in n)
    later e (suc k, below, is) = (k, omega arith, is)
