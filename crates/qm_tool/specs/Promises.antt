-- What a top call promises
use Rattle.std.specs.Prelude.{◌≡◌, ◌≢◌, ℕ, ◌≤◌, ◌⊎◌, List, Some, None, length}
use Rattle.qm_io.specs.Ends.{Took}
use Rattle.qm_io.specs.Intake.{GaveAll, GaveMore, FailedOnce}
use Rattle.qm_limits.specs.declared.TheConstants.{MOST_BYTES}
use Rattle.qm_print.specs.declared.FaultLine.TheVariants as line
use Rattle.qm_print.specs.FaultText.{fault_text}
use Rattle.qm_cost.specs.declared.Delays.{Delays}
use Rattle.qm_tool.specs.declared.command.Command.{Command}
use Rattle.qm_tool.specs.declared.command.Command.TheVariants as command
use Rattle.qm_tool.specs.declared.command.Play.{Play}
use Rattle.qm_tool.specs.declared.status.Status.{Status}
use Rattle.qm_tool.specs.declared.status.Status.TheVariants as status
use Rattle.qm_tool.specs.Commands.{IsRunning}
use Rattle.qm_tool.specs.Due.{OnReady, StatesOneCircuit, TellsCost, DueOf, Due, IsSettled, IsSure}
use Rattle.qm_tool.specs.Lines.{HasAmplitudeLine}
use Rattle.qm_tool.specs.Calls.{Call, AsksSource, Ends, Ran, Answers, Breaks, IsOfText, EndsHeld, WritesDue}

pub record Promises (k : Call) : Type 0 where
  -- what was due, and what became of it
  pub ran : Ran k
  -- ---- each status has its cause
  -- `Ok`, `Refused`, `Stopped`, `Waits`, `Wide` and `LetterOverflow` come under the commands of which they are due, with those bytes
  pub answered : IsOfText k.status → Answers k (λ c text bytes. DueOf text bytes c k.status)
  pub usage : k.status ≡ status.Usage → k.command ≡ None
  pub read_fault : k.status ≡ status.ReadFault → AsksSource k.command × FailedOnce k.from k.from'
  pub too_long : k.status ≡ status.TooLong → AsksSource k.command × GaveMore k.from k.from'
  -- of the text that was due, whatever text it was, the sink took a front
  pub write_fault : k.status ≡ status.WriteFault → Breaks k
  pub nothing : k.status ≡ status.OutOfMemory → k.to' ≡ k.to
  -- ---- a run that ended
  -- the state text is that of the one circuit of the text's programs, which has no pairs, buffers or protocol outcomes, divided by the
  -- square root of two once for each protocol measurement
  pub headline : (play : Play) → k.command ≡ Some (command.Run play) → k.status ≡ status.Ok
      → Answers k (λ c. OnReady (StatesOneCircuit play))
  -- it has an amplitude line
  pub some_line : (play : Play) → k.command ≡ Some (command.Run play) → k.status ≡ status.Ok
      → Answers k (λ c. OnReady (HasAmplitudeLine play))
  -- the cost text is that of the schedule of the seed, which is complete
  pub cost : (seed : ℕ) (d : Delays) → k.command ≡ Some (command.Cost seed d) → k.status ≡ status.Ok
      → Answers k (λ c. OnReady (TellsCost seed d))
  -- ---- the ends
  -- no read failed, the end of input was seen, and the text is all that the source had
  pub whole : AsksSource k.command → IsOfText k.status → (text : List ℕ) × GaveAll k.from k.from' text
  -- no write failed, and the last flush didn't
  pub flushed : k.status ≢ status.WriteFault → k.to'.faults ≡ k.to.faults
  -- ---- each cause has its status, where no end fails and memory doesn't run out
  pub no_command : k.command ≡ None → Ends status.Usage (fault_text line.Usage) k.to k.to' k.status
  -- what came is due; and what is due came, where it is settled
  pub some : (given : List ℕ) → EndsHeld k given → k.status ≢ status.OutOfMemory → WritesDue k given
  pub exact : (given : List ℕ) (s : Status) (bytes : List ℕ) → EndsHeld k given → k.status ≢ status.OutOfMemory → IsSettled k.command s
      → Due given bytes k.command s → (k.status ≡ s) × Took k.to k.to' bytes
  -- a text whose programs can come to no refused event and to no stuck state is run to its end
  pub complete : (c : Command) (text : List ℕ) → EndsHeld k text → k.command ≡ Some c → IsRunning c → length text ≤ MOST_BYTES
      → IsSure text → (k.status ≡ status.Ok) ⊎ (k.status ≡ status.OutOfMemory)
