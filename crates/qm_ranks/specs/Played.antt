-- What a machine that threads played keeps
use Rattle.std.specs.Prelude.{◌≡◌, ℕ, ◌<◌, ◌≤◌, ◌⊎◌, true, false, List, take, drop, length, slice_get, Some}
use Rattle.qm_instr.specs.Programs.{Programs}
use Rattle.qm_lock.specs.Lists.{times}
use Rattle.qm_proto.specs.declared.Cause.{Cause}
use Rattle.qm_proto.specs.Model.State.{State}
use Rattle.qm_proto.specs.Model.Runs.{has_event, enabled, IsRefused}
use Rattle.qm_proto.specs.Model.Schedules.{replay, IsStuck, IsFirstSoFarFrom}
use Rattle.qm_machine.specs.declared.Halt.{Halt}
use Rattle.qm_machine.specs.Keeps.{MachineView, HasEnded, HaltsAt}
use Rattle.qm_ranks.specs.declared.played.Exit.{Exit}
use Rattle.qm_ranks.specs.declared.played.Leave.{Leave}
use Rattle.qm_ranks.specs.declared.played.Leave.TheVariants as leave

-- some rank is enabled, and its event is refused
pub record SomeRefused (p : Programs) (s : State) : Type 0 where
  pub rank : ℕ
  pub cause : Cause
  pub known : rank < length p.ranks
  pub able : enabled p s.tables rank ≡ true
  pub refused : IsRefused p s rank cause

-- why the worker of rank r may leave in a state: the rank has no event left; it has one that is not enabled; the state is stuck, or an
-- enabled event is refused
abbrev pub LeavesFor : Programs → State → ℕ → Leave → Type 0
LeavesFor p s r leave.Ended = has_event p s.tables r ≡ false
LeavesFor p s r leave.Idle = (has_event p s.tables r ≡ true) × (enabled p s.tables r ≡ false)
LeavesFor p s r leave.Halted = IsStuck p s.tables ⊎ SomeRefused p s

-- what the exit of rank r's worker says of a schedule of which the first `threaded` entries were made by workers: the front of length `at`
-- has all entries of r that they made, and the worker may leave in the state after it
pub record IsExitOf (p : Programs) (schedule : List ℕ) (threaded r : ℕ) (e : Exit) : Type 0 where
  pub few : e.at ≤ threaded
  pub made : times r (take e.at schedule) ≡ e.made
  pub all : times r (take threaded schedule) ≡ e.made
  pub why : LeavesFor p (replay p (take e.at schedule)) r e.why

-- no rank has an event left, or the machine is halted, for a cause that stands at the schedule's end
abbrev pub IsAtEnd : {A : Type 0} → MachineView A → Type 0
IsAtEnd m = HasEnded m ⊎ ((h : Halt) × (m.halted ≡ Some h) × HaltsAt m.programs m.schedule h)

-- the machine, how many entries of its schedule were made by workers, and their exits, by rank
pub record PlayedView (A : Type 0) : Type 0 where
  pub machine : MachineView A
  pub threaded : ℕ
  pub exits : List Exit

-- what is kept: each rank's exit says so of the schedule, each entry after those of the workers is the lowest enabled rank in the state
-- before it, and the machine is at its end
pub record IsPlayed {A : Type 0} (m : MachineView A) (threaded : ℕ) (exits : List Exit) : Type 0 where
  pub short : threaded ≤ length m.schedule
  pub count : length exits ≡ length m.programs.ranks
  pub each : (r : ℕ) (e : Exit) → slice_get exits r ≡ Some e → IsExitOf m.programs m.schedule threaded r e
  pub lowest : IsFirstSoFarFrom m.programs (replay m.programs (take threaded m.schedule)) (drop threaded m.schedule)
  pub over : IsAtEnd m
