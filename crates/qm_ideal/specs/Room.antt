-- The width of a circuit is the least capacity of a store in which every letter finds room
use Rattle.std.specs.Prelude.{ℕ, ◌+◌, ◌<◌, ◌≤◌, ◌↔◌, List, [], ◌∷◌, ◌++◌, length, filter}
use Rattle.qm_denot.specs.declared.Wire.{Wire}
use Rattle.qm_denot.specs.declared.Letter.{Letter}
use Rattle.qm_denot.specs.declared.Letter.TheVariants.{Pair}
use Rattle.qm_denot.specs.Circuits.{Circuit}
use Rattle.qm_denot.specs.Stores.{live_after}
use Rattle.qm_denot.specs.WireLists.{lacks}
use Rattle.qm_denot.specs.Weights.{operands, also}
use Rattle.qm_proto.specs.Model.Ideal.{made_fresh, width}

-- a store of this capacity, in which some wires are live, has room to make others fresh, one after another
abbrev pub MakesFresh : ℕ → List Wire → List Wire → Type 0
MakesFresh capacity live [] = Unit {0}
MakesFresh capacity live (w ∷ ws) = (length live < capacity) × MakesFresh capacity (live ++ w ∷ []) ws

-- it has room for the letter, whose operands are live: a pair makes two wires itself
abbrev pub FindsRoom : ℕ → List Wire → Letter → Type 0
FindsRoom capacity live (Pair a b) = length live + 2 ≤ capacity
FindsRoom capacity live l = Unit {0}

-- every letter finds room: a wire that no letter before has named is made fresh just before the first that does, and the wires at the end
-- that no letter names after the last
abbrev pub AllFindRoom : ℕ → List Wire → List Wire → List Letter → List Wire → Type 0
AllFindRoom capacity live named [] ends = MakesFresh capacity live (filter (lacks named) ends)
AllFindRoom capacity live named (l ∷ ls) ends =
    let new = filter (lacks named) (made_fresh l) in
    let now = live ++ new in
    MakesFresh capacity live new × FindsRoom capacity now l
    × AllFindRoom capacity (live_after l now) (also named (operands l)) ls ends

-- the letters find room in just those stores whose capacity is at least the width
abbrev pub WidthLaw : Type 0
WidthLaw = (c : Circuit) (ends : List Wire) (capacity : ℕ) → AllFindRoom capacity [] [] c ends ↔ (width c ends ≤ capacity)
