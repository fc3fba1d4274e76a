-- The table of the slots, by which a slot's wire is found without a search
use Rattle.std.specs.Prelude.{◌≡◌, ℕ, ◌≤◌, List, [], length, All, Option, None, slice_index_or, slice_set}
use Rattle.std.specs.Global.{Vec}
use Rattle.std.specs.Vec.{vec_capacity}
use Rattle.qm_denot.specs.declared.Wire.{Wire}
use Rattle.qm_limits.specs.declared.TheConstants.{SLOTS}
use Rattle.qm_owner.specs.declared.Place.{Place}
use Rattle.qm_owner.specs.declared.Place.TheVariants.{Slot, Near, Far}
use Rattle.qm_owner.specs.Places.{PlaceMap, wire_at, IsPlacing}

-- the wires in a rank's slots
abbrev pub row_at : List (List (Option Wire)) → ℕ → List (Option Wire)
row_at slots r = slice_index_or slots r []

-- the wire in slot q of rank r
abbrev pub slot_in : List (List (Option Wire)) → ℕ → ℕ → Option Wire
slot_in slots r q = slice_index_or (row_at slots r) q None

-- the slots with a wire, or none, at a place that is a slot
abbrev pub with_slots : List (List (Option Wire)) → Place → Option Wire → List (List (Option Wire))
with_slots slots (Slot r q) w = slice_set slots r (slice_set (row_at slots r) q w)
with_slots slots (Near r) w = slots
with_slots slots (Far r) w = slots

-- what the parts show
abbrev pub map_of : List (Wire × Place) → List (List (Option Wire)) → ℕ → PlaceMap
map_of placed slots capacity = record { ranks = length slots; capacity = capacity; placed = placed }

-- there is room for all wires, no wire or slot is taken twice, and the table has each slot's wire
pub record IsKept (placed : Vec (Wire × Place)) (slots : List (List (Option Wire))) (capacity : ℕ) : Type 0 where
  pub few : length placed.items ≤ capacity
  pub reserved : capacity ≤ vec_capacity placed
  pub placing : IsPlacing placed.items
  pub rows : All (λ row. length row ≡ SLOTS) slots
  pub table : (r q : ℕ) → slot_in slots r q ≡ wire_at placed.items (Slot r q)
