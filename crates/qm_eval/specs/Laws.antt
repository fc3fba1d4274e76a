-- A circuit leaves the range first at one letter, or nowhere
use Rattle.std.specs.Prelude.{◌≡◌, ℕ}
use Rattle.qm_denot.specs.Circuits.{Circuit}
use Rattle.qm_eval.specs.Overflows.{IsFirstOverflow, NeverOverflows}

-- the first letter of a circuit at which it leaves the range is one, and there is none where no letter does so
pub record HasOneFirst (c : Circuit) : Type 0 where
  pub one : (i j : ℕ) → IsFirstOverflow c i → IsFirstOverflow c j → i ≡ j
  pub none : NeverOverflows c → (i : ℕ) → ¬ IsFirstOverflow c i

-- whatever the circuit
abbrev pub FirstOverflowLaw : Type 0
FirstOverflowLaw = (c : Circuit) → HasOneFirst c
