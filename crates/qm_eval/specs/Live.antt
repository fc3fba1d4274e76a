-- The live wires of a store as the letters of a circuit go by: a wire is made live just before the first letter that needs it
use Rattle.std.specs.Prelude.{◌≡◌, ℕ, ◌≤◌, List, [], ◌∷◌, ◌++◌, if◌then◌else◌, fold, length}
use Rattle.qm_denot.specs.declared.Wire.{Wire}
use Rattle.qm_denot.specs.declared.Letter.{Letter}
use Rattle.qm_denot.specs.Circuits.{Circuit}
use Rattle.qm_denot.specs.Stores.{Store, StandsFor, MayGrow, MayApply, live_after}
use Rattle.qm_denot.specs.WireLists.{lacks}
use Rattle.qm_proto.specs.Model.Ideal.{made_fresh}

-- these wires, and one more, if it isn't among them
abbrev pub with_live : List Wire → Wire → List Wire
with_live live w = if lacks live w then live ++ w ∷ [] else live

-- these wires, and those of a list that aren't among them
abbrev pub all_live : List Wire → List Wire → List Wire
all_live live ws = fold with_live live ws

-- a store has room for these wires, where they aren't live in it
abbrev pub HasRoomFor : List Wire → Store → Type 0
HasRoomFor ws s = length (all_live s.live ws) ≤ s.capacity

-- t is s with these wires live too: it stands for every circuit for which s stands
pub record MakesLive (ws : List Wire) (s t : Store) : Type 0 where
  pub live : t.live ≡ all_live s.live ws
  pub stands : (c : Circuit) → StandsFor s c → StandsFor t c
  pub capacity : t.capacity ≡ s.capacity

-- ---- letter by letter
-- these wires, and those that the letter needs
abbrev pub ready_for : Letter → List Wire → List Wire
ready_for l live = all_live live (made_fresh l)

-- the live wires after the letter
abbrev pub live_past : List Wire → Letter → List Wire
live_past live l = live_after l (ready_for l live)

-- a store of this capacity, in which these wires are live, has room for those that the letter needs, and the letter may be applied then
pub record MayFollow (capacity : ℕ) (live : List Wire) (l : Letter) : Type 0 where
  pub room : length (ready_for l live) ≤ capacity
  pub may : (s : Store) → s.live ≡ ready_for l live → MayGrow s → MayApply l s

-- so it is of each letter of the list after those before it
abbrev pub AllMayFollow : ℕ → List Wire → List Letter → Type 0
AllMayFollow capacity live [] = Unit {0}
AllMayFollow capacity live (l ∷ ls) = MayFollow capacity live l × AllMayFollow capacity (live_past live l) ls

-- the live wires after the letters of the list
abbrev pub live_through : List Wire → List Letter → List Wire
live_through live ls = fold live_past live ls
