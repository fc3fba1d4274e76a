-- The weight of a circuit: the sum of N over its amplitudes
use Rattle.std.specs.Prelude.{ℕ, ◌+◌, true, false, List, [], ◌∷◌, if◌then◌else◌}
use Rattle.qm_zomega.specs.Numbers.{norm}
use Rattle.qm_denot.specs.declared.Wire.{Wire}
use Rattle.qm_denot.specs.declared.Letter.{Letter}
use Rattle.qm_denot.specs.declared.Letter.TheVariants.{Phase, Flip, Had, Cx, Cz, Pair, Keep, Take, Rename}
use Rattle.qm_denot.specs.Wires.{Wires, put, no_wires}
use Rattle.qm_denot.specs.WireLists.{lacks}
use Rattle.qm_denot.specs.Circuits.{Circuit, amp}

-- the sum of f over x with each choice of the wires of a list
abbrev pub total : List Wire → (Wires → ℕ) → Wires → ℕ
total [] f x = f x
total (w ∷ ws) f x = total ws f (put x w false) + total ws f (put x w true)

-- the wires that a letter names
abbrev pub operands : Letter → List Wire
operands (Phase k w) = w ∷ []
operands (Flip w) = w ∷ []
operands (Had w) = w ∷ []
operands (Cx c t) = c ∷ t ∷ []
operands (Cz c t) = c ∷ t ∷ []
operands (Pair a b) = a ∷ b ∷ []
operands (Keep w m) = w ∷ []
operands (Take w m) = w ∷ []
operands (Rename a b) = a ∷ b ∷ []

-- the wires of the first list, and each wire of the second that the first lacks
abbrev pub also : List Wire → List Wire → List Wire
also ws [] = ws
also ws (v ∷ vs) = if lacks ws v then also (v ∷ ws) vs else also ws vs

-- the wires that C's letters name, each once
abbrev pub names : Circuit → List Wire
names [] = []
names (l ∷ ls) = also (names ls) (operands l)

-- the sum of N(amp(C, x)) over all sets x of wires that C's letters name
abbrev pub weight : Circuit → ℕ
weight c = total (names c) (λ x. norm (amp c x)) no_wires
