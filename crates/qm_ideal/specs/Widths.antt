-- The wires that letters have named, as the code keeps them
use Rattle.std.specs.Prelude.{Bool, not, ◌&&◌, List, [], ◌∷◌}
use Rattle.std.specs.BTreeSet.{BTreeSet, contains}
use Rattle.std.specs.declared.cmp.Ordering.{Ordering}
use Rattle.qm_denot.specs.declared.Wire.{Wire}
use Rattle.qm_denot.specs.contracts.WireOrd.TheImpl as wire_ord
use Rattle.qm_denot.specs.Wires.{is_wire}

-- the order of the wires in the code
abbrev pub wire_order : Wire → Wire → Ordering
wire_order = (wire_ord.ghosts).cmp

-- whether a wire is not among those that were named
abbrev pub is_unnamed : BTreeSet Wire → Wire → Bool
is_unnamed named w = not (contains wire_order named w)

-- the same, with these named too
abbrev pub is_unnamed_with : (Wire → Bool) → List Wire → Wire → Bool
is_unnamed_with f [] v = f v
is_unnamed_with f (w ∷ ws) v = is_unnamed_with (λ u. not (is_wire w u) && f u) ws v
