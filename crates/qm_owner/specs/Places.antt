-- The places of wires: a map from wires to places in which no slot has two wires
use Rattle.std.specs.Prelude.{◌≡◌, ℕ, nat_eq, nat_lt, Bool, true, false, ◌&&◌, if◌then◌else◌, List, [], ◌∷◌, ◌++◌, map, Option, Some, None}
use Rattle.qm_denot.specs.declared.Wire.{Wire}
use Rattle.qm_denot.specs.Wires.{is_wire}
use Rattle.qm_denot.specs.WireLists.{Distinct}
use Rattle.qm_limits.specs.declared.TheConstants.{SLOTS}
use Rattle.qm_owner.specs.declared.Place.{Place}
use Rattle.qm_owner.specs.declared.Place.TheVariants.{Slot, Near, Far}

-- the ranks that have slots, the most wires that may have places, and the wires that have one, each with its place
pub record PlaceMap : Type 0 where
  pub ranks : ℕ
  pub capacity : ℕ
  pub placed : List (Wire × Place)

-- whether two places are the same
abbrev pub is_place : Place → Place → Bool
is_place (Slot r q) (Slot s k) = nat_eq r s && nat_eq q k
is_place (Slot r q) (Near s) = false
is_place (Slot r q) (Far s) = false
is_place (Near r) (Slot s k) = false
is_place (Near r) (Near s) = nat_eq r s
is_place (Near r) (Far s) = false
is_place (Far r) (Slot s k) = false
is_place (Far r) (Near s) = false
is_place (Far r) (Far s) = nat_eq r s

-- the place of a wire, where it has one
abbrev pub place_of : List (Wire × Place) → Wire → Option Place
place_of [] w = None
place_of (e ∷ es) w = if is_wire e.0 w then Some e.1 else place_of es w

-- a wire at a place, where there is one
abbrev pub wire_at : List (Wire × Place) → Place → Option Wire
wire_at [] p = None
wire_at (e ∷ es) p = if is_place e.1 p then Some e.0 else wire_at es p

-- the wires at a place, in the order in which they came there
abbrev pub wires_at : List (Wire × Place) → Place → List Wire
wires_at [] p = []
wires_at (e ∷ es) p = if is_place e.1 p then e.0 ∷ wires_at es p else wires_at es p

-- the places without that of w
abbrev pub without : List (Wire × Place) → Wire → List (Wire × Place)
without [] w = []
without (e ∷ es) w = if is_wire e.0 w then without es w else e ∷ without es w

-- a slot is one of these ranks'
abbrev pub is_known : ℕ → Place → Bool
is_known ranks (Slot r q) = nat_lt r ranks && nat_lt q SLOTS
is_known ranks (Near r) = true
is_known ranks (Far r) = true

-- a slot is empty; halves have room for any number of wires
abbrev pub IsFree : List (Wire × Place) → Place → Type 0
IsFree es (Slot r q) = wire_at es (Slot r q) ≡ None
IsFree es (Near r) = Unit {0}
IsFree es (Far r) = Unit {0}

-- no slot has two wires
abbrev pub HasLoneSlots : List (Wire × Place) → Type 0
HasLoneSlots [] = Unit {0}
HasLoneSlots (e ∷ es) = IsFree es e.1 × HasLoneSlots es

-- the wires that have a place
abbrev pub wires_in : List (Wire × Place) → List Wire
wires_in es = map (λ e. e.0) es

-- no wire has two places, and no slot two wires
pub record IsPlacing (es : List (Wire × Place)) : Type 0 where
  pub wires : Distinct (wires_in es)
  pub slots : HasLoneSlots es

-- no wire has a place
abbrev pub no_places : ℕ → ℕ → PlaceMap
no_places ranks capacity = record { ranks = ranks; capacity = capacity; placed = [] }

-- w at p besides the others
abbrev pub with_wire : PlaceMap → Wire → Place → PlaceMap
with_wire m w p = record m { placed = m.placed ++ (w, p) ∷ [] }

-- w at p, and no longer where it was
abbrev pub with_wire_moved : PlaceMap → Wire → Place → PlaceMap
with_wire_moved m w p = record m { placed = without m.placed w ++ (w, p) ∷ [] }
