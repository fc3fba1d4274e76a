-- The text that is due where a run follows a schedule: the state text where it is complete, and the line of where and why it stops; then a
-- block, which is empty where a command lists nothing
use Rattle.std.specs.Prelude.{◌≡◌, ℕ, ◌%◌, ◌<◌, ◌⊎◌, Bool, true, false, List, ◌++◌, Option, None, Some, length}
use Rattle.qm_instr.specs.Programs.{Programs}
use Rattle.qm_proto.specs.declared.Cause.{Cause}
use Rattle.qm_proto.specs.declared.Cause.TheVariants as cause
use Rattle.qm_proto.specs.Model.State.{State}
use Rattle.qm_proto.specs.Model.Runs.{enabled, IsRefused}
use Rattle.qm_proto.specs.Model.Schedules.{state_at_start, replay, IsLegal, IsComplete, IsStuck, IsLowestLeft}
use Rattle.qm_proto.specs.Model.Orders.{Words, IsOrderFrom, IsFirstAround}
use Rattle.qm_machine.specs.declared.Halt.{Halt}
use Rattle.qm_machine.specs.Keeps.{MachineView, HasEnded, state_of}
use Rattle.qm_print.specs.FaultText.{stopped_line}
use Rattle.qm_tool.specs.declared.command.Order.{Order}
use Rattle.qm_tool.specs.Commands.{order_words}

-- ---- the due text of a schedule, whatever schedule it is

-- the schedule is complete; the text is a text of what it leaves, and the block
pub record CompleteWith (p : Programs) (IsEnd : List ℕ → Type 0) (schedule block text : List ℕ) : Type 0 where
  pub complete : IsComplete p schedule
  pub end : List ℕ
  pub so : IsEnd end
  pub whole : text ≡ end ++ block

-- a state stops a run in which these ranks may have the next turn: one of them is enabled and refused, or the state is stuck and the rank
-- is the lowest that has events left
pub data Stops (p : Programs) (s : State) (IsNext : ℕ → Type 0) (rank : ℕ) : Cause → Type 0 where
  Refused : (c : Cause) → IsNext rank → rank < length p.ranks → enabled p s.tables rank ≡ true
      → IsRefused p s rank c → Stops p s IsNext rank c
  Stuck : IsStuck p s.tables → IsLowestLeft p s.tables rank → Stops p s IsNext rank cause.Stuck

-- the schedule is legal and the run stops at its end; the text is the line that says where and why, and the block
pub record StoppedWith (p : Programs) (IsNext : ℕ → Type 0) (schedule block text : List ℕ) : Type 0 where
  pub legal : IsLegal p schedule
  pub rank : ℕ
  pub cause : Cause
  pub stops : Stops p (replay p schedule) IsNext rank cause
  pub whole : text ≡ stopped_line rank (length schedule) cause ++ block

-- a text is due of a run that may have these schedules, and after each these ranks the next turn: with the texts of what schedules leave,
-- and a block by whether the run is complete. Whether it is
pub data IsDue
    (p : Programs) (MayRun : List ℕ → Type 0) (MayBeNext : List ℕ → ℕ → Type 0)
    (IsEnd : List ℕ → List ℕ → Type 0) (block : Bool → List ℕ → List ℕ) (text : List ℕ) : Bool → Type 0 where
  Completes : (schedule : List ℕ) → MayRun schedule
      → CompleteWith p (IsEnd schedule) schedule (block true schedule) text → IsDue p MayRun MayBeNext IsEnd block text true
  StopsShort : (schedule : List ℕ) → MayRun schedule
      → StoppedWith p (MayBeNext schedule) schedule (block false schedule) text → IsDue p MayRun MayBeNext IsEnd block text false

-- ---- the orders of the commands

-- the schedule is that of the words, to its end; where there are none, any legal one may be it
abbrev pub IsScheduleBy : Programs → Option Words → List ℕ → Type 0
IsScheduleBy p (Some w) schedule = IsOrderFrom p (state_at_start p) w schedule
IsScheduleBy p None schedule = IsLegal p schedule

-- the rank has the next turn after the schedule, by the words; where there are none, any rank may have it
abbrev pub IsTurnBy : Programs → Option Words → List ℕ → ℕ → Type 0
IsTurnBy p (Some w) schedule rank = IsFirstAround p (replay p schedule).tables (w (length schedule) % length p.ranks) rank
IsTurnBy p None schedule rank = Unit {0}

-- the schedule may be that of the order, to its end
abbrev pub IsScheduleOf : Programs → Order → List ℕ → Type 0
IsScheduleOf p o schedule = IsScheduleBy p (order_words o) schedule

-- the rank may have the next turn after the schedule
abbrev pub IsTurnAfter : Programs → Order → List ℕ → ℕ → Type 0
IsTurnAfter p o schedule rank = IsTurnBy p (order_words o) schedule rank

-- ---- a machine that was played in this order from its start

-- a halt stands at its schedule's end, where it stops the run
pub record HaltStops {A : Type 0} (o : Order) (m : MachineView A) (h : Halt) : Type 0 where
  pub turns : h.turns ≡ length m.schedule
  pub stops : Stops m.programs (state_of m) (IsTurnAfter m.programs o m.schedule) h.rank h.cause

-- its schedule is one of the order; no rank has an event left, or it is halted where the run stops
pub record HasPlayed {A : Type 0} (o : Order) (m : MachineView A) : Type 0 where
  pub schedule : IsScheduleOf m.programs o m.schedule
  pub legal : IsLegal m.programs m.schedule
  pub over : HasEnded m ⊎ ((h : Halt) × ((m.halted ≡ Some h) × HaltStops o m h))
