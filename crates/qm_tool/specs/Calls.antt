-- A whole call: what came from the source, what went to the sink, and the status
use Rattle.std.specs.Prelude.{◌≡◌, ℕ, List, Option, Some, None}
use Rattle.qm_io.specs.Ends.{SinkView, SourceView, Rose, Took, Broke}
use Rattle.qm_io.specs.Intake.{GaveAll, GaveMore, FailedOnce}
use Rattle.qm_tool.specs.declared.status.Status.{Status}
use Rattle.qm_tool.specs.declared.status.Status.TheVariants as status
use Rattle.qm_tool.specs.declared.command.Command.{Command}
use Rattle.qm_print.specs.declared.FaultLine.TheVariants as line
use Rattle.qm_tool.specs.Commands.{made_of, recipe_text}
use Rattle.qm_tool.specs.declared.command.Recipe.{Recipe}
use Rattle.qm_tool.specs.Due.{Due, DueOf}
use Rattle.qm_print.specs.FaultText.{fault_text}

-- what the words are, both ends before and after, and the status
pub record Call : Type 0 where
  pub command : Option Command
  pub from : SourceView
  pub from' : SourceView
  pub to : SinkView
  pub to' : SinkView
  pub status : Status

abbrev pub call : Option Command → SourceView → SourceView → SinkView → SinkView → Status → Call
call command from from' to to' status = record {
  command = command;
  from = from;
  from' = from';
  to = to;
  to' = to';
  status = status;
}

-- ---- what is read
-- the words are a command that takes its program's text from the source
abbrev pub AsksSource : Option Command → Type 0
AsksSource None = ⊥
AsksSource (Some c) = made_of c ≡ None

-- the text of a command's program: the source gave it whole; or it is made, and nothing was asked of the source
abbrev pub CameFrom : Option Recipe → SourceView → SourceView → List ℕ → Type 0
CameFrom None old new text = GaveAll old new text
CameFrom (Some r) old new text = (new ≡ old) × (text ≡ recipe_text r)

-- ---- what is due
-- a status and bytes are due for what was read: there is no command, a read failed, the source gave too much, or the text came
pub data Comes (old new : SourceView) (bytes : List ℕ) : Option Command → Status → Type 0 where
  NoCommand : new ≡ old → bytes ≡ fault_text line.Usage → Comes old new bytes None status.Usage
  Failed : (c : Command) → made_of c ≡ None → FailedOnce old new → bytes ≡ fault_text line.ReadFault
      → Comes old new bytes (Some c) status.ReadFault
  More : (c : Command) → made_of c ≡ None → GaveMore old new → bytes ≡ fault_text line.TooLong
      → Comes old new bytes (Some c) status.TooLong
  Text : (c : Command) (text : List ℕ) (s : Status) → CameFrom (made_of c) old new text → DueOf text bytes c s
      → Comes old new bytes (Some c) s

-- ---- what is written
-- the status that was due, with all its bytes taken; or a failed write, with a front of them
pub data Ends (due : Status) (bytes : List ℕ) (old new : SinkView) : Status → Type 0 where
  Whole : Took old new bytes → Ends due bytes old new due
  Broken : Broke old new bytes → Ends due bytes old new status.WriteFault

-- a call that wants memory has written nothing; every other one has answered what was due
pub data Ran (k : Call) : Type 0 where
  Starved : (c : Command) → k.command ≡ Some c → k.status ≡ status.OutOfMemory → k.to' ≡ k.to → Ran k
  Done : (due : Status) (bytes : List ℕ) → Comes k.from k.from' bytes k.command due → Ends due bytes k.to k.to' k.status → Ran k

-- the words are a command whose text came, and the sink took bytes that stand to it as is said
pub record Answers (k : Call) (says : Command → List ℕ → List ℕ → Type 0) : Type 0 where
  pub command : Command
  pub is : k.command ≡ Some command
  pub text : List ℕ
  pub came : CameFrom (made_of command) k.from k.from' text
  pub bytes : List ℕ
  pub so : says command text bytes
  pub took : Took k.to k.to' bytes

-- bytes were due, and a write or the flush failed: the sink took a front of them
pub record Breaks (k : Call) : Type 0 where
  pub due : Status
  pub bytes : List ℕ
  pub comes : Comes k.from k.from' bytes k.command due
  pub broke : Broke k.to k.to' bytes

-- the status is that of a text, or of a line on what the text says
abbrev pub IsOfText : Status → Type 0
IsOfText status.Usage = ⊥
IsOfText status.ReadFault = ⊥
IsOfText status.TooLong = ⊥
IsOfText status.WriteFault = ⊥
IsOfText status.OutOfMemory = ⊥
IsOfText s = Unit {0}

-- the status is due for what the words are and these bytes of the source, with bytes that the sink took
pub record WritesDue (k : Call) (given : List ℕ) : Type 0 where
  pub bytes : List ℕ
  pub due : Due given bytes k.command k.status
  pub took : Took k.to k.to' bytes

-- neither end failed: the source wasn't asked, or these are the bytes that it had, and no read of them failed; and no write failed
pub record EndsHeld (k : Call) (given : List ℕ) : Type 0 where
  pub told : AsksSource k.command → k.from.left ≡ Some given
  pub read : AsksSource k.command → ¬ Rose k.from.faults k.from'.faults
  pub wrote : ¬ Rose k.to.faults k.to'.faults
