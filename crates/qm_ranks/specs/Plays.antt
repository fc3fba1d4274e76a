-- What playing a machine in an order of turns makes of it
use Rattle.std.specs.Prelude.{◌≡◌, ◌≢◌, ℕ, ◌%◌, ◌≤◌, Bool, true, false, List, [], ◌∷◌, ◌++◌, Some, None, length}
use Rattle.qm_denot.specs.Stores.{Store}
use Rattle.qm_limits.specs.declared.TheConstants.{MOST_EVENTS}
use Rattle.qm_proto.specs.Model.Runs.{IsAllowed}
use Rattle.qm_proto.specs.Model.Orders.{Words, IsFirstAround, StopsAround, IsEndAround, IsOrderFrom}
use Rattle.qm_machine.specs.declared.Halt.{Halt}
use Rattle.qm_machine.specs.Keeps.{MachineView, HasEnded, IsSame, state_of}

-- a run in which the rank from `start` on has its turn is over: no rank has an event left, or the machine is halted, for a cause that
-- stands at the schedule's end
pub data IsOver {A : Type 0} (m : MachineView A) (start : ℕ) : Type 0 where
  Ended : HasEnded m → IsOver m start
  Stopped : (h : Halt) → m.halted ≡ Some h → h.turns ≡ length m.schedule
      → StopsAround m.programs (state_of m) start h.rank h.cause → IsOver m start

-- a machine that wasn't halted went on by these entries, in the order of the words, to its end
pub record GoesOn {A : Type 0} (old new : MachineView A) (words : Words) : Type 0 where
  pub more : List ℕ
  pub schedule : new.schedule ≡ old.schedule ++ more
  pub order : IsOrderFrom old.programs (state_of old) words more
  pub over : IsOver new (words (length more) % length old.programs.ranks)

-- a halted machine stays as it is, another one goes on to its end
pub record Plays {A : Type 0} (store : A → Store) (old new : MachineView A) (words : Words) : Type 0 where
  pub text : new.text ≡ old.text
  pub programs : new.programs ≡ old.programs
  pub stays : old.halted ≢ None → IsSame store old new
  pub goes : old.halted ≡ None → GoesOn old new words

-- ---- one turn, in which the first rank that may go on from `start` on was stepped
-- its event was done
pub record Went {A : Type 0} (old : MachineView A) (start : ℕ) (new : MachineView A) : Type 0 where
  pub was_running : old.halted ≡ None
  pub rank : ℕ
  pub first : IsFirstAround old.programs (state_of old).tables start rank
  pub allowed : IsAllowed old.programs (state_of old) rank
  pub text : new.text ≡ old.text
  pub programs : new.programs ≡ old.programs
  pub schedule : new.schedule ≡ old.schedule ++ rank ∷ []
  pub still : new.halted ≡ None
  pub short : length new.schedule ≤ MOST_EVENTS

-- the run is at its end
pub record Stood {A : Type 0} (old : MachineView A) (start : ℕ) (new : MachineView A) : Type 0 where
  pub was_running : old.halted ≡ None
  pub text : new.text ≡ old.text
  pub programs : new.programs ≡ old.programs
  pub schedule : new.schedule ≡ old.schedule
  pub ended : IsEndAround old.programs (state_of old) start
  pub over : IsOver new start

-- whether it went on; if not, it is at its end, or the machine was halted before
pub data Turns {A : Type 0} (store : A → Store) (old : MachineView A) (start : ℕ) (new : MachineView A) : Bool → Type 0 where
  Goes : Went old start new → Turns store old start new true
  Stands : Stood old start new → Turns store old start new false
  Stays : old.halted ≢ None → IsSame store old new → Turns store old start new false
