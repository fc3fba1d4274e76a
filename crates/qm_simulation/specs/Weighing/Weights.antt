-- The weight of the circuit of a legal schedule: it is not zero, and each outcome of a protocol tape halves it
use Rattle.std.specs.Prelude.{◌≡◌, ◌≢◌, ℕ, ◌*◌, ◌^◌, ◌≤◌, Bool, List, [], ◌∷◌, ◌++◌}
use Rattle.qm_denot.specs.declared.Letter.TheVariants.{Take}
use Rattle.qm_denot.specs.declared.Wire.{Wire}
use Rattle.qm_denot.specs.Circuits.{halvings}
use Rattle.qm_denot.specs.Weights.{weight}
use Rattle.qm_instr.specs.Programs.{Programs}
use Rattle.qm_proto.specs.Model.Runs.{row_next, next_letters}
use Rattle.qm_proto.specs.Model.Schedules.{replay, MayStep}
use Rattle.qm_simulation.specs.Following.Deciding.{row_outcomes, outcomes_done}
use Rattle.qm_safety.specs.Safety.Legal.{IsLegalRun}

-- rank r's next event measures a wire away, and each of the two outcomes leaves half of the weight and as many halvings
pub record HalvesWeight (p : Programs) (schedule : List ℕ) (r : ℕ) : Type 0 where
  pub wire : Wire
  pub outcome : Bool
  pub letters : next_letters p (replay p schedule).tables r ≡ Take wire outcome ∷ []
  pub half : (m : Bool) → 2 * weight ((replay p schedule).circuit ++ Take wire m ∷ []) ≡ weight (replay p schedule).circuit
  pub halvings_same : (m : Bool) → halvings ((replay p schedule).circuit ++ Take wire m ∷ []) ≡ halvings (replay p schedule).circuit

-- the weight is not zero, and times 2 for each outcome of a protocol tape it is at most 2 for each halving; and each event that takes such
-- an outcome halves it
pub record IsWeighed (p : Programs) (schedule : List ℕ) : Type 0 where
  pub some : weight (replay p schedule).circuit ≢ 0
  pub few : weight (replay p schedule).circuit * 2 ^ outcomes_done p schedule ≤ 2 ^ halvings (replay p schedule).circuit
  pub halves : (r : ℕ) → MayStep p (replay p schedule) r → row_outcomes (row_next p (replay p schedule).tables r) ≡ 1
      → HalvesWeight p schedule r

-- of every legal schedule
abbrev pub WeightLaw : Type 0
WeightLaw = (p : Programs) (schedule : List ℕ) → IsLegalRun p schedule → IsWeighed p schedule
