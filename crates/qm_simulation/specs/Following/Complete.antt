-- What a complete schedule comes to: the end of its ideal run
use Rattle.std.specs.Prelude.{◌≡◌, ℕ, List, []}
use Rattle.qm_denot.specs.Circuits.{IsEqualUpTo}
use Rattle.qm_denot.specs.CircuitFacts.{IsNonzero}
use Rattle.qm_instr.specs.declared.Lane.{Lane}
use Rattle.qm_instr.specs.Programs.{Programs, IsInRange}
use Rattle.qm_check.specs.Checks.{IsReady}
use Rattle.qm_proto.specs.Model.Schedules.{replay, IsComplete, protocol_total}
use Rattle.qm_proto.specs.Model.Ideal.{ideal_replay, IsIdealRun, AllDone}
use Rattle.qm_simulation.specs.Following.Deciding.{ideal_of}

-- the ideal run of the schedule leaves no rank an instruction and no load on a lane. The circuit of the letters done equals the ideal one
-- up to the protocol total, and neither is zero. Both machines have the same slots and bits
pub record EndsAsIdeal (p : Programs) (schedule : List ℕ) : Type 0 where
  pub run : IsIdealRun p (ideal_of p schedule)
  pub done : AllDone p (ideal_replay p (ideal_of p schedule)).tables
  pub lanes : (a : Lane) → (ideal_replay p (ideal_of p schedule)).tables.lanes a ≡ []
  pub equal : IsEqualUpTo (protocol_total p) (replay p schedule).circuit (ideal_replay p (ideal_of p schedule)).circuit
  pub slots : (r q : ℕ) → (ideal_replay p (ideal_of p schedule)).tables.slots r q ≡ (replay p schedule).tables.slots r q
  pub bits : (r : ℕ) → ((ideal_replay p (ideal_of p schedule)).tables.parts r).bits ≡ ((replay p schedule).tables.parts r).bits
  pub nonzero : IsNonzero (replay p schedule).circuit
  pub ideal_nonzero : IsNonzero (ideal_replay p (ideal_of p schedule)).circuit

-- each complete schedule of programs that have no fault ends as its ideal run does
abbrev pub CompleteLaw : Type 0
CompleteLaw = (p : Programs) → IsReady p → IsInRange p → (schedule : List ℕ) → IsComplete p schedule → EndsAsIdeal p schedule
