-- What a debt must be, and letters by the wires that they name
use Rattle.std.proofs.Common.{◌≡◌, ◌≢◌, ℕ, ◌<◌, Bool, true, false, inl, inr, List, [], ◌∷◌, ◌++◌, subst, None, Some}
use Rattle.qm_denot.specs.declared.Wire.{Wire}
use Rattle.qm_denot.specs.declared.Letter.{Letter}
use Rattle.qm_denot.specs.declared.Letter.TheVariants.{Phase, Flip, Had, Cx}
use Rattle.qm_denot.specs.Protocols.{letter_if}
use Rattle.qm_denot.specs.Weights.{operands}
use Rattle.qm_denot.proofs.Inverses.{IsUnitary, AllUnitary}
use Rattle.qm_denot.proofs.Partings.{AreNaming, IsAmong}
use Rattle.qm_instr.specs.Programs.{Programs}
use Rattle.qm_proto.specs.Model.State.{Tables}
use Rattle.qm_proto.specs.Model.Places.{InSlot, NearOf, FarOf}
use Rattle.qm_simulation.specs.Following.Debts.{ByPair, BackTo, NoMessage, Debt, IsInCustody}

-- ---- letters by their wires
-- P of each wire of a list, and of each wire that letters name
abbrev pub EachOf : (Wire → Type 0) → List Wire → Type 0
EachOf P [] = Unit {0}
EachOf P (w ∷ ws) = P w × EachOf P ws

abbrev pub EachNamed : (Wire → Type 0) → List Letter → Type 0
EachNamed P [] = Unit {0}
EachNamed P (l ∷ ls) = EachOf P (operands l) × EachNamed P ls

each_among : (P : Wire → Type 0) (ws : List Wire) (w : Wire) → EachOf P ws → IsAmong ws w → P w
each_among P [] w all h = absurd h
each_among P (v ∷ vs) w all (inl e) = subst P e all.0
each_among P (v ∷ vs) w all (inr h) = each_among P vs w all.1 h

pub each_naming : (P : Wire → Type 0) (ls : List Letter) (w : Wire) → EachNamed P ls → AreNaming ls w → P w
each_naming P [] w all h = absurd h
each_naming P (l ∷ ls) w all (inl h) = each_among P (operands l) w all.0 h
each_naming P (l ∷ ls) w all (inr h) = each_naming P ls w all.1 h

pub each_append : (P : Wire → Type 0) (ls ms : List Letter) → EachNamed P ls → EachNamed P ms → EachNamed P (ls ++ ms)
each_append P [] ms a b = b
each_append P (l ∷ ls) ms a b = (a.0, each_append P ls ms a.1 b)

pub each_if : (P : Wire → Type 0) (b : Bool) (l : Letter) → EachOf P (operands l) → EachNamed P (letter_if b l)
each_if P true l h = (h, tt)
each_if P false l h = tt

pub unitary_append : (ls ms : List Letter) → AllUnitary ls → AllUnitary ms → AllUnitary (ls ++ ms)
unitary_append [] ms a b = b
unitary_append (l ∷ ls) ms a b = (a.0, unitary_append ls ms a.1 b)

pub unitary_if : (b : Bool) (l : Letter) → IsUnitary l → AllUnitary (letter_if b l)
unitary_if true l h = (h, tt)
unitary_if false l h = tt

-- ---- what a debt must be
pub record IsSafe (p : Programs) (t : Tables) (d : Debt) : Type 0 where
  pub named : EachNamed (λ w. IsInCustody p t w d.message) d.letters
  pub unitary : AllUnitary d.letters
  pub counted : (a k : ℕ) → d.message ≡ ByPair a k → k < (t.parts a).made
  pub real : d.message ≢ NoMessage

-- what a move owes once its near half is measured away, and what a half is corrected by
abbrev pub moved_near : Wire → Wire → Bool → List Letter
moved_near w f first = Cx w f ∷ (letter_if first (Flip f) ++ Had w ∷ [])

abbrev pub corrections_of : Bool → Bool → Wire → List Letter
corrections_of sign flip f = letter_if sign (Phase 4 f) ++ letter_if flip (Flip f)

pub far_not_near : (r to : ℕ) → FarOf to ≢ NearOf r
far_not_near r to e = let n : ⊥ = cc in n

pub slot_not_near : (r q k : ℕ) → InSlot r q ≢ NearOf k
slot_not_near r q k e = let n : ⊥ = cc in n

pub slot_not_far : (r q to : ℕ) → InSlot r q ≢ FarOf to
slot_not_far r q to e = let n : ⊥ = cc in n

pub back_not_pair : (d a k : ℕ) → BackTo d ≡ ByPair a k → ⊥
back_not_pair d a k e = let n : ⊥ = cc in n

pub pair_parts : (a k b j : ℕ) → ByPair a k ≡ ByPair b j → (a ≡ b) × (k ≡ j)
pair_parts a k b j e = (cc, cc)

-- a debt that there isn't
pub no_debt : {A : Type 0} (d : Debt) → None ≡ Some d → A
no_debt d e = cc
