-- A legal schedule of programs without a fault
use Rattle.std.specs.Prelude.{ℕ, List}
use Rattle.qm_instr.specs.Programs.{Programs, IsInRange}
use Rattle.qm_check.specs.Checks.{IsReady}
use Rattle.qm_proto.specs.Model.Schedules.{IsLegal}

-- the programs have no fault and keep to their limits, and the schedule is legal
pub record IsLegalRun (p : Programs) (schedule : List ℕ) : Type 0 where
  pub ready : IsReady p
  pub in_range : IsInRange p
  pub legal : IsLegal p schedule
