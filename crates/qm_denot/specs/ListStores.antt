-- Stores that keep their numerators in one list: place p of an index is the live wire at position p
use Rattle.std.specs.Prelude.{◌≡◌, ℕ, List, [], ◌∷◌, ◌++◌, if◌then◌else◌}
use Rattle.qm_zomega.specs.declared.Zw.{Zw}
use Rattle.qm_zomega.specs.Numbers.{zero_number}
use Rattle.qm_zomega.specs.NumberLists.{number_at}
use Rattle.qm_denot.specs.declared.Wire.{Wire}
use Rattle.qm_denot.specs.declared.Letter.{Letter}
use Rattle.qm_denot.specs.Circuits.{Amplitudes, Circuit}
use Rattle.qm_denot.specs.Places.{index_of, is_within}
use Rattle.qm_denot.specs.Stores.{Store, StandsFor, live_after}

-- the number of each set of wires: zero wherever a wire that is not live is one
abbrev pub listed_value : List Wire → List Zw → Amplitudes
listed_value live zs x = if is_within x live then number_at zs (index_of live x) else zero_number

-- the store with this capacity, these live wires, this exponent and these numbers
abbrev pub listed_store : ℕ → List Wire → ℕ → List Zw → Store
listed_store n live k zs = record { capacity = n; live = live; exponent = k; value = listed_value live zs }

-- t is what the letter makes of s
pub record Does (l : Letter) (s t : Store) : Type 0 where
  pub stands : (c : Circuit) → StandsFor s c → StandsFor t (c ++ l ∷ [])
  pub live : t.live ≡ live_after l s.live
  pub capacity : t.capacity ≡ s.capacity
