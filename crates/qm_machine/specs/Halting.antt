-- For which causes a step halts a machine
use Rattle.std.specs.Prelude.{◌≡◌, ℕ, ◌+◌, ◌≤◌, Some, None}
use Rattle.qm_denot.specs.Stores.{Store}
use Rattle.qm_proto.specs.declared.Cause.{Cause}
use Rattle.qm_proto.specs.declared.Event.TheVariants as event
use Rattle.qm_proto.specs.Model.Runs.{row_next}
use Rattle.qm_simulation.specs.Following.Deciding.{outcomes_done}
use Rattle.qm_machine.specs.declared.Halt.{Halt}
use Rattle.qm_machine.specs.Keeps.{MachineView, state_of, event_of}

-- the machine m wasn't halted, and n, which a step made of it, is halted for this cause
pub record HaltsFor {A : Type 0} (m n : MachineView A) (c : Cause) : Type 0 where
  pub running : m.halted ≡ None
  pub halt : Halt
  pub halted : n.halted ≡ Some halt
  pub cause_so : halt.cause ≡ c

-- the store's exponent is at most 252 more than the number of protocol measurements that were done
abbrev pub HasSmallExponent : {A : Type 0} → (A → Store) → MachineView A → Type 0
HasSmallExponent store m = (store m.amps).exponent ≤ outcomes_done m.programs m.schedule + 252

-- rank r's next event is a measurement of its own, by an outcome of its own tape
abbrev pub IsAtMeasure : {A : Type 0} → MachineView A → ℕ → Type 0
IsAtMeasure m r = event_of (row_next m.programs (state_of m).tables r) ≡ Some event.Measure
