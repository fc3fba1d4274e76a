-- What is so of each operand of letters, and letters whose operands have nothing in common
use Rattle.std.proofs.Common.{List, [], ◌∷◌, ◌++◌, subst}
use Rattle.qm_denot.specs.declared.Wire.{Wire}
use Rattle.qm_denot.specs.declared.Letter.{Letter}
use Rattle.qm_denot.specs.WireLists.{Lacks}
use Rattle.qm_denot.specs.Weights.{operands}
use Rattle.qm_denot.specs.CircuitFacts.{AllProper}
use Rattle.qm_denot.proofs.Agreement.{Apart, LettersApart}
use Rattle.qm_denot.proofs.Commuting.{AllApart}

-- P holds of each wire of the list
abbrev pub Each : (Wire → Type 0) → List Wire → Type 0
Each P [] = Unit {0}
Each P (w ∷ ws) = P w × Each P ws

-- P holds of each operand of the letters
abbrev pub EachOperand : (Wire → Type 0) → List Letter → Type 0
EachOperand P [] = Unit {0}
EachOperand P (l ∷ ls) = Each P (operands l) × EachOperand P ls

-- ---- from one property to a weaker one
module _ (P Q : Wire → Type 0) (weaker : (w : Wire) → P w → Q w) where
  each_on : (ws : List Wire) → Each P ws → Each Q ws
  each_on [] h = tt
  each_on (w ∷ ws) h = (weaker w h.0, each_on ws h.1)

  pub operands_on : (ls : List Letter) → EachOperand P ls → EachOperand Q ls
  operands_on [] h = tt
  operands_on (l ∷ ls) h = (each_on (operands l) h.0, operands_on ls h.1)

-- ---- one list of letters after another
pub operands_append : (P : Wire → Type 0) (ls ks : List Letter) → EachOperand P ls → EachOperand P ks → EachOperand P (ls ++ ks)
operands_append P [] ks h k = k
operands_append P (l ∷ ls) ks h k = (h.0, operands_append P ls ks h.1 k)

pub proper_append : (ls ks : List Letter) → AllProper ls → AllProper ks → AllProper (ls ++ ks)
proper_append [] ks h k = k
proper_append (l ∷ ls) ks h k = (h.0, proper_append ls ks h.1 k)

-- ---- no wire has both properties
module _ (P Q : Wire → Type 0) (never : (w : Wire) → P w → Q w → ⊥) where
  lacks : (vs : List Wire) (w : Wire) → P w → Each Q vs → Lacks vs w
  lacks [] w h k = tt
  lacks (v ∷ vs) w h k = ((λ e. never w h (subst Q e k.0)), lacks vs w h k.1)

  apart : (ws vs : List Wire) → Each P ws → Each Q vs → Apart ws vs
  apart [] vs h k = tt
  apart (w ∷ ws) vs h k = (lacks vs w h.0 k, apart ws vs h.1 k)

module _ (P Q : Wire → Type 0) (never : (w : Wire) → P w → Q w → ⊥) where
  one_apart : (ws : List Wire) (ks : List Letter) → Each P ws → EachOperand Q ks → LettersApart ks ws
  one_apart ws [] h k = tt
  one_apart ws (l ∷ ks) h k = (apart Q P (λ w q p. never w p q) (operands l) ws k.0 h, one_apart ws ks h k.1)

  -- so letters of the one and letters of the other have no operand in common
  pub all_apart : (ls ks : List Letter) → EachOperand P ls → EachOperand Q ks → AllApart ls ks
  all_apart [] ks h k = tt
  all_apart (l ∷ ls) ks h k = (one_apart (operands l) ks h.0 k, all_apart ls ks h.1 k)
