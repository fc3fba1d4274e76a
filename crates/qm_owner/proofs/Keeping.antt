-- The parts of the places stay in step
use Rattle.std.proofs.Common.{◌≡◌, ◌∙◌, ◌<◌, ◌≤◌, ◌+◌, ℕ, cond, true, List, [], ◌∷◌, ◌++◌, length, All, Option, Some, None, IsSome, refl, sym, ap, subst, arith, length-append}
use Rattle.std.specs.Global.{Vec}
use Rattle.std.specs.Vec.{vec_capacity}
use Rattle.qm_denot.specs.declared.Wire.{Wire}
use Rattle.qm_owner.specs.declared.Place.{Place}
use Rattle.qm_owner.specs.declared.Place.TheVariants.{Slot, Near, Far}
use Rattle.qm_owner.specs.Places.{is_place, is_known, place_of, wire_at, without, IsFree, IsPlacing}
use Rattle.qm_owner.specs.Slots.{slot_in, with_slots, IsKept}
use Rattle.qm_owner.proofs.Placing.{placing_with, placing_without, slot_with, slot_without, shortened, taken, place_itself}
use Rattle.qm_owner.proofs.Table.{slot_in-changed, rows_kept, known_by_wire}

-- after a wire comes to a free place
pub kept_with : (old new : Vec (Wire × Place)) (slots rows : List (List (Option Wire))) (capacity : ℕ) (w : Wire) (p : Place)
    → IsKept old slots capacity → place_of old.items w ≡ None → is_known (length slots) p ≡ true → IsFree old.items p → length old.items < capacity
    → new.items ≡ old.items ++ (w, p) ∷ [] → vec_capacity new ≡ vec_capacity old → rows ≡ with_slots slots p (Some w) → IsKept new rows capacity
kept_with old new slots rows capacity w p h absent known free room items reserved table = record {
  few = let long : length new.items ≡ length old.items + 1 = ap (λ xs. length xs) items ∙ length-append old.items ((w, p) ∷ []) in omega arith;
  reserved = subst (λ n. capacity ≤ n) (sym reserved) h.reserved;
  placing = subst IsPlacing (sym items) (placing_with old.items w p h.placing absent free);
  rows = subst (All (λ (row : List (Option Wire)). length row ≡ 16)) (sym table) (rows_kept slots p (Some w) known h.rows);
  table = λ r q.
      ap (λ xs. slot_in xs r q) table
      ∙ slot_in-changed slots p (Some w) r q known h.rows
      ∙ ap (cond (is_place p (Slot r q)) (Some w)) (h.table r q)
      ∙ sym (ap (λ es. wire_at es (Slot r q)) items ∙ slot_with old.items w p r q free);
}

-- the place of a wire is one that there is
pub known_place : (placed : Vec (Wire × Place)) (slots : List (List (Option Wire))) (capacity : ℕ) (w : Wire) (p : Place)
    → IsKept placed slots capacity → place_of placed.items w ≡ Some p → is_known (length slots) p ≡ true
known_place placed slots capacity w (Slot r q) h at =
    known_by_wire slots r q h.rows (subst IsSome (sym (h.table r q)) (taken placed.items w (Slot r q) at (place_itself (Slot r q))))
known_place placed slots capacity w (Near r) h at = refl
known_place placed slots capacity w (Far r) h at = refl

-- after a wire goes
pub kept_without : (old new : Vec (Wire × Place)) (slots rows : List (List (Option Wire))) (capacity : ℕ) (w : Wire) (p : Place)
    → IsKept old slots capacity → place_of old.items w ≡ Some p
    → new.items ≡ without old.items w → vec_capacity new ≡ vec_capacity old → rows ≡ with_slots slots p None → IsKept new rows capacity
kept_without old new slots rows capacity w p h at items reserved table =
    let known = known_place old slots capacity w p h at in
    let less : length new.items < length old.items = subst (λ n. n < length old.items) (sym (ap (λ xs. length xs) items)) (shortened old.items w (subst IsSome (sym at) refl)) in
    record {
      few = let had = h.few in omega arith;
      reserved = subst (λ n. capacity ≤ n) (sym reserved) h.reserved;
      placing = subst IsPlacing (sym items) (placing_without old.items w h.placing);
      rows = subst (All (λ (row : List (Option Wire)). length row ≡ 16)) (sym table) (rows_kept slots p None known h.rows);
      table = λ r q.
          ap (λ xs. slot_in xs r q) table
          ∙ slot_in-changed slots p None r q known h.rows
          ∙ ap (cond (is_place p (Slot r q)) None) (h.table r q)
          ∙ sym (ap (λ es. wire_at es (Slot r q)) items ∙ slot_without old.items w p r q h.placing at);
    }
