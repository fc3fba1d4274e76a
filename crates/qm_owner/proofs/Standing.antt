-- The wires at a place: which they are, and what a wire that comes, and one that goes, leave
use Rattle.std.proofs.Common.{◌≡◌, ◌≢◌, ◌∙◌, ℕ, zero, suc, Bool, true, false, cond, List, [], ◌∷◌, ◌++◌, Contains, Some, None, refl, sym, ap, subst, arith}
use Rattle.std.proofs.lemmas.Option.{same_Some}
use Rattle.qm_denot.specs.declared.Wire.{Wire}
use Rattle.qm_denot.specs.Wires.{is_wire}
use Rattle.qm_denot.specs.WireLists.{Distinct, Lacks, without_wire}
use Rattle.qm_denot.proofs.Sets.{same_from_is, is_wire_itself, is_wire_other}
use Rattle.qm_denot.proofs.LiveWires.{absent_where_lacked}
use Rattle.qm_owner.specs.declared.Place.{Place}
use Rattle.qm_owner.specs.declared.Place.TheVariants.{Slot}
use Rattle.qm_owner.specs.Places.{is_place, place_of, wire_at, wires_at, without, wires_in, IsPlacing}
use Rattle.qm_owner.proofs.Placing.{same_place, place_itself, lacked, apart_from}

-- ---- a wire that comes
pushed : (c : Bool) (v : Wire) (xs ys : List Wire) → v ∷ cond c xs ys ≡ cond c (v ∷ xs) (v ∷ ys)
pushed true v xs ys = refl
pushed false v xs ys = refl

pub at_with : (es : List (Wire × Place)) (w : Wire) (p k : Place)
    → wires_at (es ++ (w, p) ∷ []) k ≡ cond (is_place p k) (wires_at es k ++ w ∷ []) (wires_at es k)
at_with [] w p k = refl
at_with (e ∷ es) w p k =
    let rest = at_with es w p k in
    elim (is_place e.1 k) as (λ b. cond b (e.0 ∷ wires_at (es ++ (w, p) ∷ []) k) (wires_at (es ++ (w, p) ∷ []) k)
    ≡ cond (is_place p k) (cond b (e.0 ∷ wires_at es k) (wires_at es k) ++ w ∷ []) (cond b (e.0 ∷ wires_at es k) (wires_at es k))) [
      | true ↦ ap (λ ws. e.0 ∷ ws) rest ∙ pushed (is_place p k) e.0 (wires_at es k ++ w ∷ []) (wires_at es k)
      | false ↦ rest
    ]

-- another wire has no place yet
pub still_absent : (es : List (Wire × Place)) (w v : Wire) (p : Place) → place_of es v ≡ None
    → w ≢ v → place_of (es ++ (w, p) ∷ []) v ≡ None
still_absent [] w v p absent ne = ap (λ b. cond b (Some p) None) (is_wire_other w v ne)
still_absent (e ∷ es) w v p absent ne =
    elim (is_wire e.0 v) as (λ b. cond b (Some e.1) (place_of es v) ≡ None → cond b (Some e.1) (place_of (es ++ (w, p) ∷ []) v) ≡ None) [
      | true ↦ λ here. cc
      | false ↦ λ none. still_absent es w v p none ne
    ] absent

-- ---- a wire that goes
pub at_without : (es : List (Wire × Place)) (w : Wire) (k : Place)
    → wires_at (without es w) k ≡ without_wire (wires_at es k) w
at_without [] w k = refl
at_without (e ∷ es) w k =
    let less = without es w in
    let xs = wires_at es k in
    let rest = at_without es w k in
    elim (is_place e.1 k) as (λ c. is_place e.1 k ≡ c → wires_at (cond (is_wire e.0 w) less (e ∷ less)) k ≡ without_wire (cond c (e.0 ∷ xs) xs) w) [
      | true ↦ λ at. elim (is_wire e.0 w) as (λ b. wires_at (cond b less (e ∷ less)) k ≡ cond b (without_wire xs w) (e.0 ∷ without_wire xs w)) [
        | true ↦ rest
        | false ↦ ap (λ c. cond c (e.0 ∷ wires_at less k) (wires_at less k)) at ∙ ap (λ ws. e.0 ∷ ws) rest
      ]
      | false ↦ λ at. elim (is_wire e.0 w) as (λ b. wires_at (cond b less (e ∷ less)) k ≡ without_wire xs w) [
        | true ↦ rest
        | false ↦ ap (λ c. cond c (e.0 ∷ wires_at less k) (wires_at less k)) at ∙ rest
      ]
    ] refl

-- ---- which wires there are
behind : (v w : Wire) (ws : List Wire) → Contains ws w → Contains (v ∷ ws) w
behind v w ws (k, below, is) = (suc k, omega arith, is)

perhaps_behind : (b : Bool) (v w : Wire) (ws : List Wire) → Contains ws w
    → Contains (cond b (v ∷ ws) ws) w
perhaps_behind true v w ws h = behind v w ws h
perhaps_behind false v w ws h = h

-- a wire is at its place
pub there : (es : List (Wire × Place)) (w : Wire) (p : Place) → place_of es w ≡ Some p
    → Contains (wires_at es p) w
there [] w p at = cc
there (e ∷ es) w p at =
    let xs = wires_at es p in
    elim (is_wire e.0 w) as (λ b. is_wire e.0 w ≡ b → cond b (Some e.1) (place_of es w) ≡ Some p → Contains (cond (is_place e.1 p) (e.0 ∷ xs) xs) w) [
      | true ↦ λ same here.
          let k : is_place e.1 p ≡ true = subst (λ j. is_place e.1 j ≡ true) (same_Some e.1 p here) (place_itself e.1) in
          let first : Contains (e.0 ∷ xs) w = (zero, omega arith, same_from_is e.0 w same) in
          subst (λ b. Contains (cond b (e.0 ∷ xs) xs) w) (sym k) first
      | false ↦ λ _ later. perhaps_behind (is_place e.1 p) e.0 w xs (there es w p later)
    ] refl at

-- a wire without a place
unplaced : (es : List (Wire × Place)) (w : Wire) → Lacks (wires_in es) w → place_of es w ≡ None
unplaced [] w lacks = refl
unplaced (e ∷ es) w lacks =
    ap (λ b. cond b (Some e.1) (place_of es w)) (is_wire_other e.0 w lacks.0)
    ∙ unplaced es w lacks.1

-- a wire behind the first entry is another one
later_place : (e : Wire × Place) (es : List (Wire × Place)) (w : Wire) (p : Place)
    → Distinct (wires_in (e ∷ es)) → place_of es w ≡ Some p → place_of (e ∷ es) w ≡ Some p
later_place e es w p once later =
    elim (is_wire e.0 w) as (λ b. is_wire e.0 w ≡ b → cond b (Some e.1) (place_of es w) ≡ Some p) [
      | true ↦ λ same.
          let none : place_of es w ≡ None = unplaced es w (subst (Lacks (wires_in es)) (same_from_is e.0 w same) once.0) in
          let f : None ≡ Some p = sym none ∙ later in let n : ⊥ = cc in absurd n
      | false ↦ λ _. later
    ] refl

-- the place of a wire is the one where it is
pub back : (es : List (Wire × Place)) (w : Wire) (p : Place) → Distinct (wires_in es)
    → Contains (wires_at es p) w → place_of es w ≡ Some p
back [] w p once (k, below, is) = absurd (omega arith)
back (e ∷ es) w p once h =
    let xs = wires_at es p in
    elim (is_place e.1 p) as (λ b. is_place e.1 p ≡ b → Contains (cond b (e.0 ∷ xs) xs) w → place_of (e ∷ es) w ≡ Some p) [
      | true ↦ λ at c. first at (back es w p once.1) c
      | false ↦ λ _ c. later_place e es w p once (back es w p once.1 c)
    ] refl h
  where
    first : is_place e.1 p ≡ true → (Contains (wires_at es p) w → place_of es w ≡ Some p)
        → Contains (e.0 ∷ wires_at es p) w → place_of (e ∷ es) w ≡ Some p
    first at rest (zero, below, is) =
        let same : is_wire e.0 w ≡ true = subst (λ v. is_wire e.0 v ≡ true) is (is_wire_itself e.0) in
        ap (λ b. cond b (Some e.1) (place_of es w)) same ∙ ap (λ k. Some k) (same_place e.1 p at)
    first at rest (suc k, below, is) = later_place e es w p once (rest (k, omega arith, is))

-- ---- the wire in a slot
pub slot_there : (es : List (Wire × Place)) (w : Wire) (r q : ℕ) → IsPlacing es
    → place_of es w ≡ Some (Slot r q) → wire_at es (Slot r q) ≡ Some w
slot_there [] w r q h at = cc
slot_there (e ∷ es) w r q h at =
    let rest = wire_at es (Slot r q) in
    elim (is_wire e.0 w) as (λ b. is_wire e.0 w ≡ b → cond b (Some e.1) (place_of es w) ≡ Some (Slot r q) → wire_at (e ∷ es) (Slot r q) ≡ Some w) [
      | true ↦ λ same here.
          let k : is_place e.1 (Slot r q) ≡ true = subst (λ j. is_place e.1 j ≡ true) (same_Some e.1 (Slot r q) here) (place_itself e.1) in
          ap (λ b. cond b (Some e.0) rest) k ∙ ap (λ v. Some v) (same_from_is e.0 w same)
      | false ↦ λ _ later.
          let so = slot_there es w r q (record { wires = h.wires.1; slots = h.slots.1 }) later in
          elim (is_place e.1 (Slot r q)) as (λ b. is_place e.1 (Slot r q) ≡ b → cond b (Some e.0) rest ≡ Some w) [
            | true ↦ λ here. absurd (apart_from e es w (Slot r q) r q h.slots.0 later here (place_itself (Slot r q)))
            | false ↦ λ _. so
          ] refl
    ] refl at

slot_contains : (es : List (Wire × Place)) (w : Wire) (p : Place) → wire_at es p ≡ Some w
    → Contains (wires_at es p) w
slot_contains [] w p at = cc
slot_contains (e ∷ es) w p at =
    let xs = wires_at es p in
    elim (is_place e.1 p) as (λ b. cond b (Some e.0) (wire_at es p) ≡ Some w → Contains (cond b (e.0 ∷ xs) xs) w) [
      | true ↦ λ here. (zero, omega arith, same_Some e.0 w here)
      | false ↦ λ later. slot_contains es w p later
    ] at

pub slot_back : (es : List (Wire × Place)) (w : Wire) (p : Place) → Distinct (wires_in es)
    → wire_at es p ≡ Some w → place_of es w ≡ Some p
slot_back es w p once at = back es w p once (slot_contains es w p at)

-- ---- a wire of the list has a place
pub has_place : (es : List (Wire × Place)) (w : Wire) → Contains (wires_in es) w
    → (p : Place) × (place_of es w ≡ Some p)
has_place es w h =
    elim (place_of es w) as (λ o. place_of es w ≡ o → (p : Place) × (place_of es w ≡ Some p)) [
      | None ↦ λ absent. absurd (absent_where_lacked (wires_in es) w (lacked es w absent) h)
      | Some p ↦ λ at. (p, at)
    ] refl
