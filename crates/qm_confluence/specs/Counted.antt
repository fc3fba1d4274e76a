-- The wires that an ideal run has counted
use Rattle.std.specs.Prelude.{◌≡◌, ◌<◌, false, List, [], ◌∷◌}
use Rattle.qm_denot.specs.declared.Wire.{Wire}
use Rattle.qm_denot.specs.Circuits.{Circuit}
use Rattle.qm_denot.specs.Weights.{operands}
use Rattle.qm_proto.specs.Model.Ideal.{IdealTables}

-- a wire that the ideal machine has counted
pub record IsCounted (t : IdealTables) (w : Wire) : Type 0 where
  pub far : w.near ≡ false
  pub below : w.made < (t.parts w.rank).made

abbrev pub AllCounted : IdealTables → List Wire → Type 0
AllCounted t [] = Unit {0}
AllCounted t (w ∷ ws) = IsCounted t w × AllCounted t ws

abbrev pub NamesCounted : IdealTables → Circuit → Type 0
NamesCounted t [] = Unit {0}
NamesCounted t (l ∷ ls) = AllCounted t (operands l) × NamesCounted t ls
