-- What every complete schedule comes to: the one circuit of the programs, up to the protocol total
use Rattle.std.specs.Prelude.{◌≡◌, ℕ, ◌+◌, ◌^◌, ◌≤◌, List}
use Rattle.qm_denot.specs.Circuits.{Amplitudes, halvings, IsEqualUpTo}
use Rattle.qm_denot.specs.CircuitFacts.{IsNonzero}
use Rattle.qm_denot.specs.Stores.{IsReducedForm}
use Rattle.qm_denot.specs.Weights.{weight}
use Rattle.qm_instr.specs.Programs.{Programs, IsInRange}
use Rattle.qm_check.specs.Checks.{IsReady}
use Rattle.qm_proto.specs.Model.Ideal.{ideal_replay, IsOneRun, AllDone}
use Rattle.qm_proto.specs.Model.Schedules.{replay, IsComplete, protocol_total}

-- the ideal run that always steps the lowest enabled rank leaves no instruction, and the schedule's circuit equals its circuit up to the
-- protocol total. Both have the same wires in slots and the same bits; neither circuit is zero; and the reduced form of the schedule's is
-- that of the one circuit, with the protocol total added to the exponent
pub record ComesToOne (p : Programs) (schedule ranks : List ℕ) : Type 0 where
  pub run : IsOneRun p ranks
  pub done : AllDone p (ideal_replay p ranks).tables
  pub equal : IsEqualUpTo (protocol_total p) (replay p schedule).circuit (ideal_replay p ranks).circuit
  pub slots : (r q : ℕ) → (ideal_replay p ranks).tables.slots r q ≡ (replay p schedule).tables.slots r q
  pub bits : (r : ℕ) → ((ideal_replay p ranks).tables.parts r).bits ≡ ((replay p schedule).tables.parts r).bits
  pub nonzero : IsNonzero (replay p schedule).circuit
  pub one_nonzero : IsNonzero (ideal_replay p ranks).circuit
  pub one_weight : weight (ideal_replay p ranks).circuit ≤ 2 ^ halvings (ideal_replay p ranks).circuit
  pub form : (u : Amplitudes) (k : ℕ) → IsReducedForm u k (ideal_replay p ranks).circuit
      → IsReducedForm u (k + protocol_total p) (replay p schedule).circuit

-- so it is for every complete schedule of programs without a fault
abbrev pub HeadlineLaw : Type 0
HeadlineLaw =
    (p : Programs) → IsReady p → IsInRange p → (schedule : List ℕ) → IsComplete p schedule → (ranks : List ℕ) × ComesToOne p schedule ranks
