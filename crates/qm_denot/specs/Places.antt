-- Places in an index: place p of an index is its bit of value 2^p
use Rattle.std.specs.Prelude.{◌≡◌, ◌≢◌, ℕ, ◌+◌, ◌*◌, ◌/◌, ◌%◌, ◌^◌, ◌<◌, nat_eq, Bool, true, false, List, [], ◌∷◌}
use Rattle.std.proofs.Common.{zero, suc}
use Rattle.qm_denot.specs.declared.Wire.{Wire}
use Rattle.qm_denot.specs.Wires.{Wires, has, put, no_wires, is_empty}

-- 1 for true, 0 for false
abbrev pub bit_of : Bool → ℕ
bit_of true = 1
bit_of false = 0

-- the bit of k at place p
abbrev pub has_place : ℕ → ℕ → Bool
has_place zero k = nat_eq (k % 2) 1
has_place (suc p) k = has_place p (k / 2)

-- k with b at place p
abbrev pub set_place : ℕ → Bool → ℕ → ℕ
set_place zero b k = bit_of b + 2 * (k / 2)
set_place (suc p) b k = k % 2 + 2 * set_place p b (k / 2)

-- k with b put in at place p, its higher places moved up
abbrev pub insert_place : ℕ → Bool → ℕ → ℕ
insert_place zero b k = bit_of b + 2 * k
insert_place (suc p) b k = k % 2 + 2 * insert_place p b (k / 2)

-- the index of x: the wire at place p of the list gives the bit at place p
abbrev pub index_of : List Wire → Wires → ℕ
index_of [] x = 0
index_of (w ∷ ws) x = bit_of (has x w) + 2 * index_of ws x

-- x without the wires of the list
abbrev pub without : Wires → List Wire → Wires
without x [] = x
without x (w ∷ ws) = without (put x w false) ws

-- whether each wire of x is in the list
abbrev pub is_within : Wires → List Wire → Bool
is_within x ws = is_empty (without x ws)

-- the set of those wires of the list at whose place the index has a one
unfoldable pub set_at : List Wire → ℕ → Wires
set_at [] k = no_wires
set_at (w ∷ ws) k = put (set_at ws (k / 2)) w (nat_eq (k % 2) 1)

-- w stands at place p of the list, and nowhere before
abbrev pub IsFirstAt : List Wire → ℕ → Wire → Type 0
IsFirstAt [] p w = ⊥
IsFirstAt (v ∷ ws) zero w = v ≡ w
IsFirstAt (v ∷ ws) (suc p) w = (v ≢ w) × IsFirstAt ws p w

-- place p is one of the places of a list of so many entries, which has one for each choice of its places
pub record HasPlace (size p : ℕ) : Type 0 where
  pub places : ℕ
  pub size_is : size ≡ 2 ^ places
  pub below : p < places
