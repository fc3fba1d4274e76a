-- The table of slots
use Rattle.std.proofs.Common.{◌≡◌, ◌∙◌, ◌<◌, ℕ, nat_eq, nat_lt, ◌&&◌, Bool, true, false, cond, List, [], ◌∷◌, length, All, Option, None, IsSome, zero, suc, refl, sym, ap, subst, slice_index_or, slice_set, arith, length-set}
use Rattle.std.proofs.lemmas.Bool.{and_parts, and_from, ltb-true, lt-ltb, eqb-true, eq-eqb}
use Rattle.std.proofs.lemmas.List.{get_or-set_same, get_or-set_other}
use Rattle.std.proofs.lemmas.List.Elements.{All-set, All-get_or}
use Rattle.qm_denot.specs.declared.Wire.{Wire}
use Rattle.qm_owner.specs.declared.Place.{Place}
use Rattle.qm_owner.specs.declared.Place.TheVariants.{Slot, Near, Far}
use Rattle.qm_owner.specs.Places.{is_place, is_known}
use Rattle.qm_owner.specs.Slots.{row_at, slot_in, with_slots}

-- a list after a write, by index
written : {X : Type 0} (xs : List X) (i j : ℕ) (x d : X) → i < length xs
    → slice_index_or (slice_set xs i x) j d ≡ cond (nat_eq i j) x (slice_index_or xs j d)
written xs i j x d below =
    elim (nat_eq i j) as (λ b. nat_eq i j ≡ b → slice_index_or (slice_set xs i x) j d ≡ cond b x (slice_index_or xs j d)) [
      | true ↦ λ e. subst (λ k. slice_index_or (slice_set xs i x) k d ≡ x) (eqb-true i j e) (get_or-set_same xs i x d below)
      | false ↦ λ e. get_or-set_other xs i j x d (λ same. let h : nat_eq i j ≡ true = eq-eqb i j (sym same) in let f : ⊥ = cc in f)
    ] refl

both : (a b : Bool) (w o : Option Wire) → cond a (cond b w o) o ≡ cond (a && b) w o
both true b w o = refl
both false b w o = refl

-- the row of a rank that has slots
row_long : (slots : List (List (Option Wire))) (r : ℕ) → All (λ row. length row ≡ 16) slots
    → r < length slots → length (row_at slots r) ≡ 16
row_long slots r rows below = All-get_or (λ (row : List (Option Wire)). length row ≡ 16) slots r [] below rows

-- a slot's wire after the table changes at a place
pub slot_in-changed : (slots : List (List (Option Wire))) (p : Place) (w : Option Wire) (r q : ℕ)
    → is_known (length slots) p ≡ true → All (λ row. length row ≡ 16) slots
    → slot_in (with_slots slots p w) r q ≡ cond (is_place p (Slot r q)) w (slot_in slots r q)
slot_in-changed slots (Slot s k) w r q known rows =
    let bounds = and_parts (nat_lt s (length slots)) (nat_lt k 16) known in
    let below : s < length slots = ltb-true s (length slots) bounds.0 in
    let long : length (row_at slots s) ≡ 16 = row_long slots s rows below in
    let few : k < 16 = ltb-true k 16 bounds.1 in
    ap (λ row. slice_index_or row q None) (written slots s r (slice_set (row_at slots s) k w) [] below)
    ∙ elim (nat_eq s r) as (λ b. nat_eq s r ≡ b → slice_index_or (cond b (slice_set (row_at slots s) k w) (row_at slots r)) q None ≡ cond b (cond (nat_eq k q) w (slot_in slots r q)) (slot_in slots r q)) [
      | true ↦ λ e.
          written (row_at slots s) k q w None (omega arith)
          ∙ ap (λ n. cond (nat_eq k q) w (slot_in slots n q)) (eqb-true s r e)
      | false ↦ λ _. refl
    ] refl
    ∙ both (nat_eq s r) (nat_eq k q) w (slot_in slots r q)
slot_in-changed slots (Near s) w r q known rows = refl
slot_in-changed slots (Far s) w r q known rows = refl

-- each row keeps its length
pub rows_kept : (slots : List (List (Option Wire))) (p : Place) (w : Option Wire)
    → is_known (length slots) p ≡ true → All (λ row. length row ≡ 16) slots
    → All (λ row. length row ≡ 16) (with_slots slots p w)
rows_kept slots (Slot s k) w known rows =
    let bounds = and_parts (nat_lt s (length slots)) (nat_lt k 16) known in
    All-set (λ (row : List (Option Wire)). length row ≡ 16) slots s (slice_set (row_at slots s) k w)
    (length-set (row_at slots s) k w ∙ row_long slots s rows (ltb-true s (length slots) bounds.0)) rows
rows_kept slots (Near s) w known rows = rows
rows_kept slots (Far s) w known rows = rows

-- an element that isn't the default is in the list
within : {X : Type 0} (P : X → Type 0) (xs : List X) (k : ℕ) (d : X) → ¬ (P d)
    → P (slice_index_or xs k d) → k < length xs
within P [] k d apart h = absurd (apart h)
within P (x ∷ xs) zero d apart h = omega arith
within P (x ∷ xs) (suc k) d apart h = let before : k < length xs = within P xs k d apart h in omega arith

none_filled : ¬ (IsSome (let o : Option Wire = None in o))
none_filled some = let f : ⊥ = cc in f

-- a slot with a wire is one that there is
pub known_by_wire : (slots : List (List (Option Wire))) (r q : ℕ)
    → All (λ row. length row ≡ 16) slots → IsSome (slot_in slots r q)
    → is_known (length slots) (Slot r q) ≡ true
known_by_wire slots r q rows some =
    let few : r < length slots = within (λ (row : List (Option Wire)). IsSome (slice_index_or row q None)) slots r [] none_filled some in
    let below : q < length (row_at slots r) = within (λ (o : Option Wire). IsSome o) (row_at slots r) q None none_filled some in
    let long : length (row_at slots r) ≡ 16 = row_long slots r rows few in
    and_from (nat_lt r (length slots)) (nat_lt q 16) (lt-ltb r (length slots) few) (lt-ltb q 16 (omega arith))
