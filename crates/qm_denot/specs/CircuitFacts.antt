-- Facts of letters and circuits that the laws of weights take
use Rattle.std.specs.Prelude.{◌≢◌, List, [], ◌∷◌}
use Rattle.qm_zomega.specs.Numbers.{zero_number}
use Rattle.qm_denot.specs.declared.Letter.{Letter}
use Rattle.qm_denot.specs.Wires.{Wires}
use Rattle.qm_denot.specs.WireLists.{Distinct}
use Rattle.qm_denot.specs.Circuits.{Circuit, amp}
use Rattle.qm_denot.specs.Weights.{operands}

-- the letter's operands differ
abbrev pub IsProper : Letter → Type 0
IsProper l = Distinct (operands l)

-- each letter of the list is proper
abbrev pub AllProper : List Letter → Type 0
AllProper [] = Unit {0}
AllProper (l ∷ ls) = IsProper l × AllProper ls

-- some amplitude of C is not zero
abbrev pub IsNonzero : Circuit → Type 0
IsNonzero c = (x : Wires) × (amp c x ≢ zero_number)
