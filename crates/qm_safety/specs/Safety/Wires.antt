-- Each event changes wires of its own rank alone, and each wire has one place
use Rattle.std.specs.Prelude.{◌≡◌, ℕ, ◌<◌, true, List, All, Some, length}
use Rattle.qm_denot.specs.declared.Letter.{Letter}
use Rattle.qm_denot.specs.declared.Letter.TheVariants.{Pair}
use Rattle.qm_denot.specs.declared.Wire.{Wire}
use Rattle.qm_denot.specs.Circuits.{IsBlank}
use Rattle.qm_denot.specs.Weights.{operands}
use Rattle.qm_instr.specs.declared.Instr.{Instr}
use Rattle.qm_instr.specs.Programs.{Programs}
use Rattle.qm_check.specs.Operands.{partner_of}
use Rattle.qm_proto.specs.Model.Places.{Place, NearOf, FarOf, IsAt, IsPlaced, IsOwn}
use Rattle.qm_proto.specs.Model.Rows.{current}
use Rattle.qm_proto.specs.Model.Runs.{enabled, next_tables, next_letters}
use Rattle.qm_proto.specs.Model.Schedules.{replay}
use Rattle.qm_proto.specs.Model.State.{Tables, far_made, near_made}
use Rattle.qm_safety.specs.Safety.Legal.{IsLegalRun}

-- e and f are the two new halves of rank r: no wire had their places before, and afterwards e is a near half of rank r and f a far half of
-- the rank that its instruction names
pub record AreNewHalves (p : Programs) (t : Tables) (r : ℕ) (e f : Wire) : Type 0 where
  pub near : e ≡ near_made t r
  pub far : f ≡ far_made t r
  pub near_new : ¬ IsPlaced t e
  pub far_new : ¬ IsPlaced t f
  pub instruction : Instr
  pub here : current p t r ≡ Some instruction
  pub to : ℕ
  pub named : partner_of instruction ≡ Some to
  pub near_there : IsAt (next_tables p t r) e (NearOf r)
  pub far_there : IsAt (next_tables p t r) f (FarOf to)

-- the letter names wires of rank r alone, or makes its two new halves
abbrev pub KeepsToOwn : Programs → Tables → ℕ → Letter → Type 0
KeepsToOwn p t r (Pair e f) = AreNewHalves p t r e f
KeepsToOwn p t r l = All (IsOwn t r) (operands l)

-- in every state of every legal schedule each letter of an enabled event names wires of its rank alone
abbrev pub OwnWiresLaw : Type 0
OwnWiresLaw = (p : Programs) (schedule : List ℕ) → IsLegalRun p schedule → (r : ℕ) → r < length p.ranks
    → (let t = (replay p schedule).tables in enabled p t r ≡ true → All (KeepsToOwn p t r) (next_letters p t r))

-- a wire has one place at most, and one that has none is blank in the circuit
pub record HasPlaces (p : Programs) (schedule : List ℕ) : Type 0 where
  pub one_place : (w : Wire) (o q : Place) → IsAt (replay p schedule).tables w o → IsAt (replay p schedule).tables w q → o ≡ q
  pub blank : (w : Wire) → ¬ IsPlaced (replay p schedule).tables w → IsBlank (replay p schedule).circuit w

-- in every state of every legal schedule
abbrev pub PlacesLaw : Type 0
PlacesLaw = (p : Programs) (schedule : List ℕ) → IsLegalRun p schedule → HasPlaces p schedule
