-- What a command answers: its status, its text, what must hold before it is written, and what it is due for
use Rattle.std.specs.Prelude.{◌≡◌, ℕ, ◌≤◌, List, Option, Some, None, Result, Ok, Err, IfSome}
use Rattle.qm_io.specs.Ends.{SinkView, SourceView}
use Rattle.qm_denot.specs.Stores.{Store}
use Rattle.qm_limits.specs.declared.TheConstants.{MOST_RANKS}
use Rattle.qm_instr.specs.Programs.{Programs}
use Rattle.qm_ideal.specs.OneCircuits.{IsOneCircuit}
use Rattle.qm_print.specs.CheckText.{check_text}
use Rattle.qm_print.specs.CircuitText.{circuit_text}
use Rattle.qm_print.specs.FaultText.{fault_text, NamesNoAnswers}
use Rattle.qm_print.specs.Slots.{AreLive}
use Rattle.qm_tool.specs.declared.answer.Answer.{Answer}
use Rattle.qm_tool.specs.declared.answer.Answer.TheVariants as answer
use Rattle.qm_tool.specs.declared.circuits.Amplitudes.{Amplitudes}
use Rattle.qm_tool.specs.declared.command.Command.{Command}
use Rattle.qm_tool.specs.declared.refusal.Refusal.{Refusal}
use Rattle.qm_tool.specs.declared.refusal.Refusal.TheVariants as refusal
use Rattle.qm_tool.specs.declared.status.Status.{Status}
use Rattle.qm_tool.specs.declared.status.Status.TheVariants as status
use Rattle.qm_tool.specs.Calls.{Comes, Ends}
use Rattle.qm_tool.specs.Due.{DueOf, DueReady}
use Rattle.qm_tool.specs.Ends.{text_under}
use Rattle.qm_tool.specs.Running.{run_status, run_text, work_text, MayPutRun}
use Rattle.qm_tool.specs.Statuses.{status_of_fault}

-- the status of a call that wrote the answer
abbrev pub status_of : {A : Type 0} → Answer A → Status
status_of (answer.Line fault) = status_of_fault fault
status_of (answer.Played run) = run_status run
status_of (answer.Circuit ready circuit) = status.Ok
status_of (answer.Valued amplitudes) = status.Ok
status_of (answer.Checked ready meets) = status.Ok
status_of (answer.Worked recipe run) = run_status run
status_of (answer.Text s text) = s

-- the answer's text
abbrev pub text_of : {A : Type 0} → (A → Store) → Answer A → List ℕ
text_of store (answer.Line fault) = fault_text fault
text_of store (answer.Played run) = run_text store run
text_of store (answer.Circuit ready circuit) = circuit_text ready circuit
text_of store (answer.Valued amplitudes) = text_under amplitudes.head amplitudes.live.items (store amplitudes.amps).value
text_of store (answer.Checked ready meets) = check_text ready meets
text_of store (answer.Worked recipe run) = work_text store recipe run
text_of store (answer.Text s text) = text.items

-- there are few ranks, and the slots hold different live wires
pub record MayPutAmplitudes {A : Type 0} (store : A → Store) (a : Amplitudes A) : Type 0 where
  pub few : a.head.ranks ≤ MOST_RANKS
  pub live : AreLive (store a.amps).live a.live.items

-- what must hold before it is written
abbrev pub MayPut : {A : Type 0} → (A → Store) → Answer A → Type 0
MayPut store (answer.Line fault) = NamesNoAnswers fault
MayPut store (answer.Played run) = MayPutRun store run
MayPut store (answer.Circuit ready circuit) = IsOneCircuit ready circuit
MayPut store (answer.Valued amplitudes) = MayPutAmplitudes store amplitudes
MayPut store (answer.Checked ready meets) = Unit {0}
MayPut store (answer.Worked recipe run) = MayPutRun store run
MayPut store (answer.Text s text) = Unit {0}

-- ---- what the answer is due for
-- it may be written, and its text and its status are due
pub record Fits {A : Type 0} (store : A → Store) (IsDue : List ℕ → Status → Type 0) (a : Answer A) : Type 0 where
  pub may_put : MayPut store a
  pub due : IsDue (text_of store a) (status_of a)

-- the answer, or the line that is written in its place; none where memory ran out
abbrev pub answer_in : {A : Type 0} → Result (Answer A) Refusal → Option (Answer A)
answer_in (Ok a) = Some a
answer_in (Err (refusal.Line fault)) = Some (answer.Line fault)
answer_in (Err refusal.Memory) = None

-- it fits, if there is one
abbrev pub AnswersDue : {A : Type 0} → (A → Store) → (List ℕ → Status → Type 0) → Result (Answer A) Refusal → Type 0
AnswersDue store IsDue r = IfSome (answer_in r) (Fits store IsDue)

-- for programs that have no fault
abbrev pub AnswersReady : {A : Type 0} → (A → Store) → Programs → Command → Result (Answer A) Refusal → Type 0
AnswersReady store p c r = AnswersDue store (λ bytes s. DueReady p bytes c s) r

-- for the text of the command's program
abbrev pub AnswersText : {A : Type 0} → (A → Store) → List ℕ → Command → Result (Answer A) Refusal → Type 0
AnswersText store text c r = AnswersDue store (λ bytes s. DueOf text bytes c s) r

-- for what words are, and what came from the source
abbrev pub AnswersCall : {A : Type 0} → (A → Store) → Option Command → SourceView → SourceView → Result (Answer A) Refusal → Type 0
AnswersCall store o from from' r = AnswersDue store (λ bytes s. Comes from from' bytes o s) r

-- the answer was written, or a write failed; where there is none nothing was written
abbrev pub Concludes : {A : Type 0} → (A → Store) → Option (Answer A) → SinkView → SinkView → Status → Type 0
Concludes store None to to' s = (s ≡ status.OutOfMemory) × (to' ≡ to)
Concludes store (Some a) to to' s = Ends (status_of a) (text_of store a) to to' s
