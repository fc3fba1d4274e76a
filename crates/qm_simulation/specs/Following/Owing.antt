-- How every legal schedule follows its ideal run: the circuit of the letters done is the ideal one and what messages in progress owe
use Rattle.std.specs.Prelude.{◌≡◌, ◌≢◌, ℕ, true, List, Contains}
use Rattle.qm_denot.specs.declared.Wire.{Wire}
use Rattle.qm_denot.specs.declared.Letter.{Letter}
use Rattle.qm_denot.specs.Weights.{operands}
use Rattle.qm_denot.specs.Tags.{Tagged}
use Rattle.qm_instr.specs.Programs.{Programs, IsInRange}
use Rattle.qm_check.specs.Checks.{IsReady}
use Rattle.qm_proto.specs.Model.Rows.{current}
use Rattle.qm_proto.specs.Model.Runs.{enabled}
use Rattle.qm_proto.specs.Model.Schedules.{replay, IsLegal}
use Rattle.qm_proto.specs.Model.Ideal.{ideal_replay, IsIdealRun}
use Rattle.qm_simulation.specs.Following.Deciding.{ideal_of, outcomes_done}
use Rattle.qm_simulation.specs.Following.Seen.{tables_seen}
use Rattle.qm_simulation.specs.Following.Debts.{Message}
use Rattle.qm_simulation.specs.Following.Follows.{Follows}
use Rattle.qm_simulation.specs.Following.Simulation.{event_message, Touches, IsSameRank}

-- the ideal run of the schedule is one, and its tables are those seen in the physical ones. Each rank that is in the middle of no
-- instruction is the same in both machines. The circuit of the letters done equals the ideal one and then the letters owed, up to the
-- outcomes of protocol measurements so far. No wire is in letters of two messages, and no event of another message than its own, where it
-- can happen, touches a wire of a letter owed
pub record FollowsItsIdeal (p : Programs) (schedule : List ℕ) : Type 0 where
  pub run : IsIdealRun p (ideal_of p schedule)
  pub seen : (ideal_replay p (ideal_of p schedule)).tables ≡ tables_seen p (replay p schedule).tables
  pub debts : Tagged Message
  pub following :
      (let x = replay p schedule in
      Follows p x.tables (outcomes_done p schedule) x.circuit (ideal_replay p (ideal_of p schedule)).circuit debts)
  pub ranks : (r : ℕ) → (((replay p schedule).tables.parts r).stage ≡ 0) → IsSameRank p schedule r
  pub apart : (a b : Message × Letter) (w : Wire) → Contains debts a → Contains debts b
      → Contains (operands a.1) w → Contains (operands b.1) w → a.0 ≡ b.0
  pub untouched : (a : Message × Letter) (w : Wire) (r : ℕ) → (let t = (replay p schedule).tables in
      Contains debts a → Contains (operands a.1) w → enabled p t r ≡ true → event_message t r (current p t r) ≢ a.0 → ¬ Touches p t r w)

-- each legal schedule of programs that have no fault follows its ideal run
abbrev pub FollowsLaw : Type 0
FollowsLaw = (p : Programs) → IsReady p → IsInRange p → (schedule : List ℕ) → IsLegal p schedule → FollowsItsIdeal p schedule
