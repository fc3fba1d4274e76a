-- The order of the steps of an ideal run doesn't matter
use Rattle.std.specs.Prelude.{◌≡◌, ◌≢◌, ℕ, ◌<◌, ◌≤◌, ◌^◌, true, List, [], ◌∷◌, ◌++◌, length}
use Rattle.qm_denot.specs.Wires.{Wires}
use Rattle.qm_denot.specs.Circuits.{amp, halvings}
use Rattle.qm_denot.specs.CircuitFacts.{AllProper}
use Rattle.qm_denot.specs.Weights.{weight}
use Rattle.qm_instr.specs.Programs.{Programs, IsInRange}
use Rattle.qm_check.specs.Checks.{IsReady}
use Rattle.qm_proto.specs.Model.Ideal.{IdealState, ideal_enabled, ideal_replay, IsIdealRun, IsOneRun, AllDone}

-- two states with equal tables, so with equal positions, counts of wires, bits, outcomes left, slots and lanes, and with circuits of
-- equal amplitudes and equal halvings
pub record Alike (s u : IdealState) : Type 0 where
  pub tables : s.tables ≡ u.tables
  pub amplitudes : (x : Wires) → amp s.circuit x ≡ amp u.circuit x
  pub halves : halvings s.circuit ≡ halvings u.circuit

-- two ranks that are both enabled after an ideal run may step in either order
pub record EitherOrder (p : Programs) (rs : List ℕ) (a b : ℕ) : Type 0 where
  pub a_first : IsIdealRun p (rs ++ a ∷ b ∷ [])
  pub b_first : IsIdealRun p (rs ++ b ∷ a ∷ [])
  pub alike : Alike (ideal_replay p (rs ++ a ∷ b ∷ [])) (ideal_replay p (rs ++ b ∷ a ∷ []))

-- any two ranks that are both enabled after an ideal run may step in either order
abbrev pub StepsCommute : Programs → Type 0
StepsCommute p =
    (rs : List ℕ) (a b : ℕ) → IsIdealRun p rs → a < length p.ranks → b < length p.ranks → a ≢ b
    → ideal_enabled p (ideal_replay p rs).tables a ≡ true → ideal_enabled p (ideal_replay p rs).tables b ≡ true
    → EitherOrder p rs a b

-- where an ideal run leaves no instruction, the run of the lowest enabled ranks leaves none either, has as many steps, and ends alike
pub record EndsAlike (p : Programs) (rs ranks : List ℕ) : Type 0 where
  pub done : AllDone p (ideal_replay p ranks).tables
  pub alike : Alike (ideal_replay p rs) (ideal_replay p ranks)
  pub long : length rs ≡ length ranks

-- there is such a run, and every such run ends so
pub record OneRunEndsAlike (p : Programs) : Type 0 where
  pub some : (rs : List ℕ) → IsIdealRun p rs → AllDone p (ideal_replay p rs).tables → (ranks : List ℕ) × IsOneRun p ranks
  pub each : (rs ranks : List ℕ) → IsIdealRun p rs → AllDone p (ideal_replay p rs).tables → IsOneRun p ranks → EndsAlike p rs ranks

-- where an ideal run leaves no instruction, each ideal run can be completed, to an end that is alike
pub record IsCompletion (p : Programs) (rs qs rest : List ℕ) : Type 0 where
  pub run : IsIdealRun p (qs ++ rest)
  pub alike : Alike (ideal_replay p rs) (ideal_replay p (qs ++ rest))
  pub long : length rs ≡ length (qs ++ rest)

-- where some ideal run leaves no instruction, each ideal run can be completed to an end that is like its end
abbrev pub EachRunCompletes : Programs → Type 0
EachRunCompletes p =
    (rs qs : List ℕ) → IsIdealRun p rs → AllDone p (ideal_replay p rs).tables → IsIdealRun p qs
    → (rest : List ℕ) × IsCompletion p rs qs rest

-- the law of programs that have no fault. That they are in range is asked because the check's definitions take it; every Input is in
-- range, by its type
pub record IsConfluent (p : Programs) : Type 0 where
  pub commute : StepsCommute p
  pub one_run : OneRunEndsAlike p
  pub completes : EachRunCompletes p

-- for programs that have no fault the order of an ideal run's steps doesn't matter
abbrev pub ConfluenceLaw : Type 0
ConfluenceLaw = (p : Programs) → IsReady p → IsInRange p → IsConfluent p

-- the circuit of an ideal run: no letter has an operand twice, and the weight is at most 2 to the number of halvings
pub record IsTame (s : IdealState) : Type 0 where
  pub proper : AllProper s.circuit
  pub weight : weight s.circuit ≤ 2 ^ halvings s.circuit

-- each ideal run of programs that have no fault leaves such a circuit
abbrev pub IdealWeightLaw : Type 0
IdealWeightLaw = (p : Programs) → IsReady p → IsInRange p → (rs : List ℕ) → IsIdealRun p rs → IsTame (ideal_replay p rs)
