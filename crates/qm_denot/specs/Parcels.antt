-- Lists of parcels, whose last one gets its bits later
use Rattle.std.specs.Prelude.{◌≡◌, Bool, List, [], ◌∷◌, Some, None}
use Rattle.qm_denot.specs.declared.Parcel.{Parcel}

-- there is a last parcel, and it has no bits yet
abbrev pub IsFillable : List Parcel → Type 0
IsFillable [] = ⊥
IsFillable (x ∷ []) = x.bits ≡ None
IsFillable (x ∷ y ∷ xs) = IsFillable (y ∷ xs)

-- the parcels with bits in the last one
abbrev pub filled : List Parcel → Bool × Bool → List Parcel
filled [] b = []
filled (x ∷ []) b = record x { bits = Some b } ∷ []
filled (x ∷ y ∷ xs) b = x ∷ filled (y ∷ xs) b
