-- A legal schedule's circuit beside its ideal circuit: its weight is not zero, and as small as its outcomes and halvings say
use Rattle.std.proofs.Common.{◌≢◌, ℕ, ◌*◌, ◌^◌, ◌≤◌, List}
use Rattle.qm_denot.specs.Circuits.{Circuit, halvings}
use Rattle.qm_denot.specs.CircuitFacts.{AllProper}
use Rattle.qm_denot.specs.Weights.{weight}
use Rattle.qm_denot.specs.Tags.{Tagged, letters_of}
use Rattle.qm_denot.proofs.Inverses.{AllUnitary}
use Rattle.qm_instr.specs.Programs.{Programs, IsInRange}
use Rattle.qm_check.specs.Checks.{IsReady}
use Rattle.qm_proto.specs.Model.Ideal.{ideal_replay}
use Rattle.qm_proto.specs.Model.Schedules.{replay, IsLegal}
use Rattle.qm_proto.specs.Model.State.{Tables, State}
use Rattle.qm_proto.proofs.Replays.{over_legal}
use Rattle.qm_simulation.specs.Following.Deciding.{ideal_of, outcomes_done}
use Rattle.qm_simulation.specs.Following.Debts.{Message}
use Rattle.qm_simulation.specs.Following.Follows.{Follows}
use Rattle.qm_confluence.proofs.Confluence.NamedWires.{ideal_weights}
use Rattle.qm_simulation.proofs.Following.FollowsIdeal.{FollowsIdeal, follows_ideal}
use Rattle.qm_simulation.proofs.Following.Safe.{unitary_debts}
use Rattle.qm_simulation.proofs.Following.Stood.{IsStood, stood_at_start, stood_next}
use Rattle.qm_simulation.proofs.Following.TestsTransfer.{debts_unitary}
use Rattle.qm_safety.proofs.Tables.NextEvents.{line_next}
use Rattle.qm_simulation.proofs.Weighing.Measured.{weight_some, weight_few}

module _ (p : Programs) (ready : IsReady p) (ranges : IsInRange p) where
  pub stood : (rs : List ℕ) → IsLegal p rs → IsStood p (replay p rs).tables
  stood rs legal =
      over_legal p (λ (s : State). IsStood p s.tables) (stood_at_start p ready ranges)
      (λ s r h may. let here = line_next p s.tables r may.known may.able in stood_next p ready ranges s.tables r h may.able here.i here.s here.next) rs legal

  module _ (rs : List ℕ) (legal : IsLegal p rs) where
    abbrev t : Tables
    t = (replay p rs).tables

    abbrev g : Circuit
    g = (replay p rs).circuit

    abbrev c : Circuit
    c = (ideal_replay p (ideal_of p rs)).circuit

    pub beside : FollowsIdeal p ready ranges rs
    beside = follows_ideal p ready ranges rs legal

    abbrev ds : Tagged Message
    ds = beside.follow.debts

    abbrev n : ℕ
    n = outcomes_done p rs

    pub before : Follows p t n g c ds
    before = beside.follow.following

    pub unitary : AllUnitary (letters_of ds)
    unitary = debts_unitary p t n g c ds before (unitary_debts p ready ranges t (stood rs legal))

    pub proper : AllProper c
    proper = (ideal_weights p ready ranges (ideal_of p rs) beside.run).proper

    pub some_weight : weight g ≢ 0
    some_weight = weight_some n g c (letters_of ds) before.equal unitary before.nonzero

    pub few_weight : weight g * 2 ^ n ≤ 2 ^ halvings g
    few_weight = weight_few n g c (letters_of ds) before.equal unitary proper
