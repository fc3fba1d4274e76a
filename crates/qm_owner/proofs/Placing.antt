-- Lists of places: what a wire that comes, and one that goes, leave
use Rattle.std.proofs.Common.{◌≡◌, ◌∙◌, ◌<◌, ◌≤◌, ℕ, nat_eq, Bool, true, false, cond, List, [], ◌∷◌, ◌++◌, length, Option, Some, None, IsSome, suc, refl, sym, ap, subst, arith}
use Rattle.std.proofs.lemmas.Bool.{and_parts, and_from, eqb-true, eq-eqb}
use Rattle.std.proofs.lemmas.List.{map_push}
use Rattle.std.proofs.lemmas.Option.{same_Some}
use Rattle.qm_denot.specs.declared.Wire.{Wire}
use Rattle.qm_denot.specs.Wires.{is_wire}
use Rattle.qm_denot.specs.WireLists.{Distinct, Lacks, without_wire}
use Rattle.qm_denot.proofs.Sets.{same_from_is, is_wire_itself, is_wire_other}
use Rattle.qm_denot.proofs.LiveWires.{Distinct-push}
use Rattle.qm_denot.proofs.NameLists.{Distinct-without_wire}
use Rattle.qm_owner.specs.declared.Place.{Place}
use Rattle.qm_owner.specs.declared.Place.TheVariants.{Slot, Near, Far}
use Rattle.qm_owner.specs.Places.{is_place, place_of, wire_at, without, IsFree, HasLoneSlots, wires_in, IsPlacing}

-- ---- places
-- places that are the same are equal
pub same_place : (p k : Place) → is_place p k ≡ true → p ≡ k
same_place (Slot r q) (Slot s k) e =
    let both = and_parts (nat_eq r s) (nat_eq q k) e in
    ap (λ n. Slot n q) (eqb-true r s both.0) ∙ ap (Slot s) (eqb-true q k both.1)
same_place (Slot r q) (Near s) e = cc
same_place (Slot r q) (Far s) e = cc
same_place (Near r) (Slot s k) e = cc
same_place (Near r) (Near s) e = ap Near (eqb-true r s e)
same_place (Near r) (Far s) e = cc
same_place (Far r) (Slot s k) e = cc
same_place (Far r) (Near s) e = cc
same_place (Far r) (Far s) e = ap Far (eqb-true r s e)

pub place_itself : (p : Place) → is_place p p ≡ true
place_itself (Slot r q) = and_from (nat_eq r r) (nat_eq q q) (eq-eqb r r refl) (eq-eqb q q refl)
place_itself (Near r) = eq-eqb r r refl
place_itself (Far r) = eq-eqb r r refl

shut : (b : Bool) {A : Type 0} (x : A) (o : Option A) → cond b (Some x) o ≡ None
    → (b ≡ false) × (o ≡ None)
shut true x o e = cc
shut false x o e = (refl, e)

-- ---- a wire that goes
-- it has no place any more
pub gone : (es : List (Wire × Place)) (w : Wire) → place_of (without es w) w ≡ None
gone [] w = refl
gone (e ∷ es) w =
    elim (is_wire e.0 w) as (λ b. is_wire e.0 w ≡ b → place_of (cond b (without es w) (e ∷ without es w)) w ≡ None) [
      | true ↦ λ _. gone es w
      | false ↦ λ apart. ap (λ b. cond b (Some e.1) (place_of (without es w) w)) apart ∙ gone es w
    ] refl

-- the list gets no longer
shorter : (es : List (Wire × Place)) (w : Wire) → length (without es w) ≤ length es
shorter [] w = omega arith
shorter (e ∷ es) w =
    let rest : length (without es w) ≤ length es = shorter es w in
    elim (is_wire e.0 w) as (λ b. length (cond b (without es w) (e ∷ without es w)) ≤ suc (length es)) [ true ↦ omega arith | false ↦ omega arith ]

-- and shorter where the wire had a place
pub shortened : (es : List (Wire × Place)) (w : Wire) → IsSome (place_of es w)
    → length (without es w) < length es
shortened [] w some = cc
shortened (e ∷ es) w some =
    let rest : length (without es w) ≤ length es = shorter es w in
    elim (is_wire e.0 w) as (λ b. IsSome (cond b (Some e.1) (place_of es w)) → length (cond b (without es w) (e ∷ without es w)) < suc (length es)) [
      | true ↦ λ _. omega arith
      | false ↦ λ had. let less : length (without es w) < length es = shortened es w had in omega arith
    ] some

wires-without : (es : List (Wire × Place)) (w : Wire)
    → wires_in (without es w) ≡ without_wire (wires_in es) w
wires-without [] w = refl
wires-without (e ∷ es) w =
    elim (is_wire e.0 w) as (λ b. wires_in (cond b (without es w) (e ∷ without es w)) ≡ cond b (without_wire (wires_in es) w) (e.0 ∷ without_wire (wires_in es) w)) [
      | true ↦ wires-without es w
      | false ↦ ap (λ ws. e.0 ∷ ws) (wires-without es w)
    ]

-- a place that has no wire has none then
empty_without : (es : List (Wire × Place)) (w : Wire) (p : Place) → wire_at es p ≡ None
    → wire_at (without es w) p ≡ None
empty_without [] w p empty = refl
empty_without (e ∷ es) w p empty =
    let parts = shut (is_place e.1 p) e.0 (wire_at es p) empty in
    elim (is_wire e.0 w) as (λ b. wire_at (cond b (without es w) (e ∷ without es w)) p ≡ None) [
      | true ↦ empty_without es w p parts.1
      | false ↦ ap (λ b. cond b (Some e.0) (wire_at (without es w) p)) parts.0 ∙ empty_without es w p parts.1
    ]

pub free_without : (es : List (Wire × Place)) (w : Wire) (p : Place) → IsFree es p
    → IsFree (without es w) p
free_without es w (Slot r q) free = empty_without es w (Slot r q) free
free_without es w (Near r) free = tt
free_without es w (Far r) free = tt

lone_without : (es : List (Wire × Place)) (w : Wire) → HasLoneSlots es → HasLoneSlots (without es w)
lone_without [] w lone = tt
lone_without (e ∷ es) w lone =
    elim (is_wire e.0 w) as (λ b. HasLoneSlots (cond b (without es w) (e ∷ without es w))) [
      | true ↦ lone_without es w lone.1
      | false ↦ (free_without es w e.1 lone.0, lone_without es w lone.1)
    ]

pub placing_without : (es : List (Wire × Place)) (w : Wire) → IsPlacing es
    → IsPlacing (without es w)
placing_without es w h = record {
  wires = subst Distinct (sym (wires-without es w)) (Distinct-without_wire (wires_in es) w h.wires);
  slots = lone_without es w h.slots;
}

-- ---- a wire that comes
pub lacked : (es : List (Wire × Place)) (w : Wire) → place_of es w ≡ None → Lacks (wires_in es) w
lacked [] w absent = tt
lacked (e ∷ es) w absent =
    let parts = shut (is_wire e.0 w) e.1 (place_of es w) absent in
    (λ same. let h : is_wire e.0 w ≡ true = subst (λ v. is_wire e.0 v ≡ true) same (is_wire_itself e.0) in let f : ⊥ = (let g = parts.0 in cc) in f, lacked es w parts.1)

empty_with : (es : List (Wire × Place)) (w : Wire) (p k : Place) → wire_at es k ≡ None
    → is_place p k ≡ false → wire_at (es ++ (w, p) ∷ []) k ≡ None
empty_with [] w p k empty apart = ap (λ b. cond b (Some w) None) apart
empty_with (e ∷ es) w p k empty apart =
    let parts = shut (is_place e.1 k) e.0 (wire_at es k) empty in
    ap (λ b. cond b (Some e.0) (wire_at (es ++ (w, p) ∷ []) k)) parts.0
    ∙ empty_with es w p k parts.1 apart

-- the place of the entry is another than a place that is free behind it
other_place : (e : Wire × Place) (es : List (Wire × Place)) (p : Place) (r q : ℕ)
    → IsFree (e ∷ es) p → e.1 ≡ Slot r q → is_place p (Slot r q) ≡ false
other_place e es p r q free at =
    elim (is_place p (Slot r q)) as (λ b. is_place p (Slot r q) ≡ b → b ≡ false) [
      | true ↦ λ same.
          let here : p ≡ Slot r q = same_place p (Slot r q) same in
          let empty : IsFree (e ∷ es) (Slot r q) = subst (IsFree (e ∷ es)) here free in
          let parts = shut (is_place e.1 (Slot r q)) e.0 (wire_at es (Slot r q)) empty in
          let itself : is_place (Slot r q) (Slot r q) ≡ true = subst (λ k. is_place k (Slot r q) ≡ true) here same in
          let h : is_place e.1 (Slot r q) ≡ true = subst (λ k. is_place k (Slot r q) ≡ true) (sym at) itself in
          let f : true ≡ false = sym h ∙ parts.0 in f
      | false ↦ λ _. refl
    ] refl

free_behind : (e : Wire × Place) (es : List (Wire × Place)) (p : Place) → IsFree (e ∷ es) p
    → IsFree es p
free_behind e es (Slot r q) free = (shut (is_place e.1 (Slot r q)) e.0 (wire_at es (Slot r q)) free).1
free_behind e es (Near r) free = tt
free_behind e es (Far r) free = tt

free_with : (e : Wire × Place) (es : List (Wire × Place)) (w : Wire) (p k : Place)
    → IsFree (e ∷ es) p → e.1 ≡ k → IsFree es k → IsFree (es ++ (w, p) ∷ []) k
free_with e es w p (Slot r q) free at own = empty_with es w p (Slot r q) own (other_place e es p r q free at)
free_with e es w p (Near r) free at own = tt
free_with e es w p (Far r) free at own = tt

lone_with : (es : List (Wire × Place)) (w : Wire) (p : Place) → HasLoneSlots es → IsFree es p
    → HasLoneSlots (es ++ (w, p) ∷ [])
lone_with [] w (Slot r q) lone free = (refl, tt)
lone_with [] w (Near r) lone free = (tt, tt)
lone_with [] w (Far r) lone free = (tt, tt)
lone_with (e ∷ es) w p lone free = (free_with e es w p e.1 free refl lone.0, lone_with es w p lone.1 (free_behind e es p free))

pub placing_with : (es : List (Wire × Place)) (w : Wire) (p : Place) → IsPlacing es
    → place_of es w ≡ None → IsFree es p → IsPlacing (es ++ (w, p) ∷ [])
placing_with es w p h absent free = record {
  wires = subst Distinct (sym (map_push (λ (e : Wire × Place). e.0) es (w, p))) (Distinct-push (wires_in es) w h.wires (lacked es w absent));
  slots = lone_with es w p h.slots free;
}

-- ---- the wires in the slots
-- after a wire comes to a place that is free
pub slot_with : (es : List (Wire × Place)) (w : Wire) (p : Place) (r q : ℕ) → IsFree es p
    → wire_at (es ++ (w, p) ∷ []) (Slot r q) ≡ cond (is_place p (Slot r q)) (Some w) (wire_at es (Slot r q))
slot_with [] w p r q free = refl
slot_with (e ∷ es) w p r q free =
    ap (cond (is_place e.1 (Slot r q)) (Some e.0)) (slot_with es w p r q (free_behind e es p free))
    ∙ elim (is_place e.1 (Slot r q)) as (λ b. is_place e.1 (Slot r q) ≡ b → cond b (Some e.0) (cond (is_place p (Slot r q)) (Some w) (wire_at es (Slot r q)))
    ≡ cond (is_place p (Slot r q)) (Some w) (cond b (Some e.0) (wire_at es (Slot r q)))) [
      | true ↦ λ at. sym (ap (λ b. cond b (Some w) (Some e.0)) (other_place e es p r q free (same_place e.1 (Slot r q) at)))
      | false ↦ λ _. refl
    ] refl

without_lacked : (es : List (Wire × Place)) (w : Wire) → Lacks (wires_in es) w → without es w ≡ es
without_lacked [] w lacks = refl
without_lacked (e ∷ es) w lacks =
    ap (λ b. cond b (without es w) (e ∷ without es w)) (is_wire_other e.0 w lacks.0)
    ∙ ap (λ xs. e ∷ xs) (without_lacked es w lacks.1)

-- the place of a wire has a wire
pub taken : (es : List (Wire × Place)) (w : Wire) (p : Place) → place_of es w ≡ Some p
    → is_place p p ≡ true → IsSome (wire_at es p)
taken [] w p at itself = cc
taken (e ∷ es) w p at itself =
    elim (is_wire e.0 w) as (λ b. cond b (Some e.1) (place_of es w) ≡ Some p → IsSome (cond (is_place e.1 p) (Some e.0) (wire_at es p))) [
      | true ↦ λ here. subst (λ b. IsSome (cond b (Some e.0) (wire_at es p))) (sym (subst (λ k. is_place k p ≡ true) (sym (same_Some e.1 p here)) itself)) refl
      | false ↦ λ later.
          elim (is_place e.1 p) as (λ b. IsSome (cond b (Some e.0) (wire_at es p))) [ true ↦ refl | false ↦ taken es w p later itself ]
    ] at

-- the place of the first entry is free behind it
first_gone : (e : Wire × Place) (es : List (Wire × Place)) (r q : ℕ) → IsFree es e.1
    → wire_at es (Slot r q) ≡ cond (is_place e.1 (Slot r q)) None (cond (is_place e.1 (Slot r q)) (Some e.0) (wire_at es (Slot r q)))
first_gone e es r q free =
    elim (is_place e.1 (Slot r q)) as (λ b. is_place e.1 (Slot r q) ≡ b → wire_at es (Slot r q) ≡ cond b None (cond b (Some e.0) (wire_at es (Slot r q)))) [
      | true ↦ λ at. let empty : IsFree es (Slot r q) = subst (IsFree es) (same_place e.1 (Slot r q) at) free in empty
      | false ↦ λ _. refl
    ] refl

exchanged : (s t : Bool) (x o : Option Wire) → (s ≡ true → t ≡ true → ⊥)
    → cond s x (cond t None o) ≡ cond t None (cond s x o)
exchanged true true x o apart = absurd (apart refl refl)
exchanged true false x o apart = refl
exchanged false t x o apart = refl

-- the place of a wire behind the first entry is no slot of that entry
pub apart_from : (e : Wire × Place) (es : List (Wire × Place)) (w : Wire) (p : Place) (r q : ℕ)
    → IsFree es e.1 → place_of es w ≡ Some p
    → is_place e.1 (Slot r q) ≡ true → is_place p (Slot r q) ≡ true → ⊥
apart_from e es w p r q free at here there =
    let empty : IsFree es (Slot r q) = subst (IsFree es) (same_place e.1 (Slot r q) here) free in
    let is : p ≡ Slot r q = same_place p (Slot r q) there in
    let itself : is_place (Slot r q) (Slot r q) ≡ true = subst (λ k. is_place k (Slot r q) ≡ true) is there in
    let some : IsSome (wire_at es (Slot r q)) = taken es w (Slot r q) (at ∙ ap (λ k. Some k) is) itself in
    let none : IsSome (let o : Option Wire = None in o) = subst IsSome empty some in
    let f : ⊥ = cc in f

-- after a wire goes
pub slot_without : (es : List (Wire × Place)) (w : Wire) (p : Place) (r q : ℕ) → IsPlacing es
    → place_of es w ≡ Some p
    → wire_at (without es w) (Slot r q) ≡ cond (is_place p (Slot r q)) None (wire_at es (Slot r q))
slot_without [] w p r q h at = cc
slot_without (e ∷ es) w p r q h at =
    elim (is_wire e.0 w) as (λ b. is_wire e.0 w ≡ b → cond b (Some e.1) (place_of es w) ≡ Some p
    → wire_at (cond b (without es w) (e ∷ without es w)) (Slot r q) ≡ cond (is_place p (Slot r q)) None (wire_at (e ∷ es) (Slot r q))) [
      | true ↦ λ same here.
          let lacks : Lacks (wires_in es) w = subst (Lacks (wires_in es)) (same_from_is e.0 w same) h.wires.0 in
          ap (λ xs. wire_at xs (Slot r q)) (without_lacked es w lacks)
          ∙ first_gone e es r q h.slots.0
          ∙ ap (λ k. cond (is_place k (Slot r q)) None (wire_at (e ∷ es) (Slot r q))) (same_Some e.1 p here)
      | false ↦ λ _ later.
          ap (cond (is_place e.1 (Slot r q)) (Some e.0)) (slot_without es w p r q (record { wires = h.wires.1; slots = h.slots.1 }) later)
          ∙ exchanged (is_place e.1 (Slot r q)) (is_place p (Slot r q)) (Some e.0) (wire_at es (Slot r q)) (apart_from e es w p r q h.slots.0 later)
    ] refl at
