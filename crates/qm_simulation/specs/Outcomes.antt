-- Own outcomes that the one circuit can have are possible whatever the order of the ranks
use Rattle.std.specs.Prelude.{◌≡◌, ℕ, true, Bool, List}
use Rattle.qm_denot.specs.CircuitFacts.{IsNonzero}
use Rattle.qm_instr.specs.Programs.{Programs, IsInRange}
use Rattle.qm_check.specs.Checks.{IsReady}
use Rattle.qm_confluence.specs.Tapes.{with_tapes, AreLong}
use Rattle.qm_proto.specs.declared.Cause.TheVariants as cause
use Rattle.qm_proto.specs.Model.Runs.{enabled, IsRefused}
use Rattle.qm_proto.specs.Model.Schedules.{replay, IsLegal}
use Rattle.qm_proto.specs.Model.Ideal.{ideal_replay, IsOneRun, AllDone}

-- the run of the lowest enabled ranks does not end early, and leaves a circuit that is not zero
pub record HasOutcomes (p : Programs) : Type 0 where
  pub ranks : List ℕ
  pub run : IsOneRun p ranks
  pub done : AllDone p (ideal_replay p ranks).tables
  pub some : IsNonzero (ideal_replay p ranks).circuit

-- after no legal schedule is an enabled event refused as impossible
abbrev pub NeverImpossible : Programs → Type 0
NeverImpossible p =
    (schedule : List ℕ) → IsLegal p schedule → (r : ℕ) → enabled p (replay p schedule).tables r ≡ true
    → ¬ IsRefused p (replay p schedule) r cause.Impossible

-- the tapes that programs have are their own outcomes here: so it is whatever drew them
abbrev pub PossibleLaw : Type 0
PossibleLaw = (p : Programs) → IsReady p → IsInRange p → HasOutcomes p → NeverImpossible p

-- programs with other tapes that are as long have no fault either; and where their one circuit is there and isn't zero, no event of theirs is
-- ever refused as impossible
pub record KeepReady (p : Programs) (own : ℕ → List Bool) : Type 0 where
  pub ready : IsReady (with_tapes p own)
  pub in_range : IsInRange (with_tapes p own)
  pub possible : HasOutcomes (with_tapes p own) → NeverImpossible (with_tapes p own)

abbrev pub TapesLaw : Type 0
TapesLaw = (p : Programs) → IsReady p → IsInRange p → (own : ℕ → List Bool) → AreLong p own → KeepReady p own
