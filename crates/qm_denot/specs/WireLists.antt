-- Lists of wires: what they have, what they lack, and which sets they say
use Rattle.std.specs.Prelude.{◌≢◌, Bool, true, not, ◌&&◌, List, [], ◌∷◌, if◌then◌else◌}
use Rattle.qm_denot.specs.declared.Wire.{Wire}
use Rattle.qm_denot.specs.Wires.{Wires, put, no_wires, is_wire}

-- w is not in the list
abbrev pub Lacks : List Wire → Wire → Type 0
Lacks [] w = Unit {0}
Lacks (v ∷ ws) w = (v ≢ w) × Lacks ws w

-- each wire of the list stands there once
abbrev pub Distinct : List Wire → Type 0
Distinct [] = Unit {0}
Distinct (w ∷ ws) = Lacks ws w × Distinct ws

-- the same two facts as tests
abbrev pub lacks : List Wire → Wire → Bool
lacks [] w = true
lacks (v ∷ ws) w = not (is_wire v w) && lacks ws w

abbrev pub are_distinct : List Wire → Bool
are_distinct [] = true
are_distinct (w ∷ ws) = lacks ws w && are_distinct ws

-- x and the wires of the list
abbrev pub with_wires : List Wire → Wires → Wires
with_wires [] x = x
with_wires (w ∷ ws) x = with_wires ws (put x w true)

-- the set of the wires of the list
abbrev pub wires_of : List Wire → Wires
wires_of ws = with_wires ws no_wires

-- the list without w
abbrev pub without_wire : List Wire → Wire → List Wire
without_wire [] w = []
without_wire (v ∷ vs) w = if is_wire v w then without_wire vs w else v ∷ without_wire vs w

-- the list with b in the place of a
abbrev pub with_renamed : List Wire → Wire → Wire → List Wire
with_renamed [] a b = []
with_renamed (v ∷ vs) a b = (if is_wire v a then b else v) ∷ with_renamed vs a b
