-- The status and the bytes that are due of a command, by the text of its program, while no end fails
use Rattle.std.specs.Prelude.{◌≡◌, ◌≢◌, ℕ, ◌<◌, ◌≤◌, ◌⊎◌, ◌↔◌, Bool, true, false, IsTrue, List, ◌++◌, Option, Some, None, Ok, Err, length}
use Rattle.qm_denot.specs.Circuits.{Amplitudes}
use Rattle.qm_denot.specs.Stores.{IsReducedForm}
use Rattle.qm_instr.specs.Programs.{Programs, IsInRange}
use Rattle.qm_limits.specs.declared.TheConstants.{MOST_BYTES}
use Rattle.qm_check.specs.declared.Fault.{Fault}
use Rattle.qm_check.specs.Checks.{IsReady, IsFirstFault, most_capacity}
use Rattle.qm_proto.specs.Model.Schedules.{replay, protocol_total, IsComplete, RendezvousEnds}
use Rattle.qm_proto.specs.Model.Ideal.{ideal_replay, IsOneRun, AllDone}
use Rattle.qm_confluence.specs.Endings.Completing.{NeverRefused}
use Rattle.qm_confluence.specs.Stuck.NeverStuck.{NeverStuck}
use Rattle.qm_ideal.specs.OneCircuits.{OneView, IsOneCircuit, EndsEarly}
use Rattle.qm_eval.specs.Overflows.{IsFirstOverflow, NeverOverflows}
use Rattle.qm_cost.specs.declared.Delays.{Delays}
use Rattle.qm_cost.specs.Reports.{ReportView, IsCost}
use Rattle.qm_expand.specs.declared.ReadError.{ReadError}
use Rattle.qm_expand.specs.declared.ReadError.TheVariants as error
use Rattle.qm_expand.specs.Reading.{Reads}
use Rattle.qm_tool.specs.declared.command.Command.{Command}
use Rattle.qm_tool.specs.declared.command.Command.TheVariants as command
use Rattle.qm_tool.specs.declared.command.Order.TheVariants.{Seeded}
use Rattle.qm_tool.specs.declared.command.Play.{Play}
use Rattle.qm_tool.specs.declared.command.Recipe.{Recipe}
use Rattle.qm_print.specs.declared.FaultLine.{FaultLine}
use Rattle.qm_print.specs.declared.FaultLine.TheVariants as line
use Rattle.qm_tool.specs.declared.status.Status.{Status}
use Rattle.qm_tool.specs.declared.status.Status.TheVariants as status
use Rattle.qm_tool.specs.Commands.{block_of, command_of, kind_word, made_of, order_words, plain, seeded, text_or}
use Rattle.qm_tool.specs.CostText.{cost_text}
use Rattle.qm_tool.specs.Dues.{IsScheduleOf, IsTurnAfter, IsDue}
use Rattle.qm_print.specs.CheckText.{check_text}
use Rattle.qm_print.specs.CircuitText.{circuit_text}
use Rattle.qm_print.specs.FaultText.{fault_text}
use Rattle.qm_print.specs.JobText.{job_text}
use Rattle.qm_print.specs.Slots.{full_slots}
use Rattle.qm_print.specs.StateText.{IsStateText, line_count}

-- ---- the reading of a text
-- the text reads as programs that have no fault
pub record ReadsReady (text : List ℕ) (p : Programs) : Type 0 where
  pub reads : Reads text (Ok p)
  pub ready : IsReady p

-- and the bytes stand to them as is said
pub record OnReady (says : Programs → List ℕ → Type 0) (text bytes : List ℕ) : Type 0 where
  pub programs : Programs
  pub reads : ReadsReady text programs
  pub so : says programs bytes

-- the line for a fault of reading; there is none for want of memory
abbrev pub reading_fault : ReadError → Option FaultLine
reading_fault (error.BadByte n) = Some (line.BadByte n)
reading_fault (error.Unexpected n) = Some (line.Unexpected n)
reading_fault (error.NumberTooLarge n) = Some (line.NumberTooLarge n)
reading_fault (error.TooDeep n) = Some (line.TooDeep n)
reading_fault (error.Unended n) = Some (line.Unended n)
reading_fault (error.UnknownName n) = Some (line.UnknownName n)
reading_fault (error.OutOfRange n) = Some (line.OutOfRange n)
reading_fault (error.TooMany n) = Some (line.TooMany n)
reading_fault error.Memory = None

-- why a text is refused: its reading has a fault, or it reads as programs whose first fault this is
pub data IsRefusedFor (text : List ℕ) : FaultLine → Type 0 where
  Misread : (e : ReadError) (f : FaultLine) → Reads text (Err e) → reading_fault e ≡ Some f → IsRefusedFor text f
  Faulty : (p : Programs) (f : Fault) → Reads text (Ok p) → IsFirstFault p f → IsRefusedFor text (line.Unready f)

-- the text is refused, and the bytes are the line that says why
pub record RefusedWith (text bytes : List ℕ) : Type 0 where
  pub fault : FaultLine
  pub refused : IsRefusedFor text fault
  pub whole : bytes ≡ fault_text fault

-- ---- runs
-- the bytes are due of a run that is played in this way, with these texts of what schedules leave; whether all ranks end
pub record RunsTo
    (complete : Bool) (play : Play) (IsEnd : Programs → List ℕ → List ℕ → Type 0) (p : Programs) (bytes : List ℕ) : Type 0 where
  pub in_range : IsInRange p
  pub due : IsDue p (IsScheduleOf p play.order) (IsTurnAfter p play.order) (IsEnd p) (λ c schedule. block_of play.listing c p schedule) bytes complete

-- the text is the state text of what the schedule leaves
abbrev pub IsTextAfter : Programs → List ℕ → List ℕ → Type 0
IsTextAfter p schedule text =
    let s = replay p schedule in
    IsStateText p s.circuit 0 (λ r. (s.tables.parts r).bits) s.tables.slots text

-- the text is the job text of what the schedule leaves
pub record IsJobText (r : Recipe) (p : Programs) (schedule text : List ℕ) : Type 0 where
  pub numerators : Amplitudes
  pub exponent : ℕ
  pub form : IsReducedForm numerators exponent (replay p schedule).circuit
  pub whole : text ≡ job_text (kind_word r.kind) (record {
    size = r.size;
    number = r.number;
    events = length schedule;
    protocol = protocol_total p;
    scale = exponent;
    lines = line_count numerators (full_slots p (replay p schedule).tables.slots);
  })

-- the run is complete: the bytes are the state text of its end, and the block
abbrev pub EndsWith : Play → Programs → List ℕ → Type 0
EndsWith play p bytes = RunsTo true play IsTextAfter p bytes

-- the run stops: the bytes are the line that says where and why, and the block
abbrev pub StopsWith : Play → Programs → List ℕ → Type 0
StopsWith play p bytes = RunsTo false play IsTextAfter p bytes

-- the bytes are due of the run of a made program, in which each turn is the lowest rank's that is neither ended nor blocked: the job text,
-- or the line of where and why it stops
abbrev pub WorksTo : Bool → Recipe → Programs → List ℕ → Type 0
WorksTo complete r p bytes = RunsTo complete plain (IsJobText r) p bytes

-- the text is the cost text of the schedule with these delays
pub record IsCostText (d : Delays) (p : Programs) (schedule text : List ℕ) : Type 0 where
  pub report : ReportView
  pub so : IsCost p schedule d report
  pub whole : text ≡ cost_text (length schedule) report

-- the bytes are due of the run in the order of the seed: the cost text, or the line of where and why it stops
abbrev pub CostsTo : Bool → ℕ → Delays → Programs → List ℕ → Type 0
CostsTo complete seed d p bytes = RunsTo complete (seeded seed) (IsCostText d) p bytes

-- the schedule of the seed is complete, and the bytes are its cost text
pub record TellsCost (seed : ℕ) (d : Delays) (p : Programs) (bytes : List ℕ) : Type 0 where
  pub schedule : List ℕ
  pub order : IsScheduleOf p (Seeded seed) schedule
  pub complete : IsComplete p schedule
  pub text : IsCostText d p schedule bytes

-- ---- the one circuit
-- the text is the state text of the programs' one circuit, with one division by root2 for each protocol measurement
pub record IsOneText (p : Programs) (text : List ℕ) : Type 0 where
  pub run : List ℕ
  pub one : IsOneRun p run
  pub done : AllDone p (ideal_replay p run).tables
  pub state : let s = ideal_replay p run in IsStateText p s.circuit (protocol_total p) (λ r. (s.tables.parts r).bits) s.tables.slots text

-- the bytes are a state text, and the block of a complete schedule in this order
pub record IsWithBlock (play : Play) (p : Programs) (state bytes : List ℕ) : Type 0 where
  pub schedule : List ℕ
  pub order : IsScheduleOf p play.order schedule
  pub whole : bytes ≡ state ++ block_of play.listing true p schedule

-- the state text is that of the one circuit
pub record StatesOneCircuit (play : Play) (p : Programs) (bytes : List ℕ) : Type 0 where
  pub state : List ℕ
  pub one : IsOneText p state
  pub blocked : IsWithBlock play p state bytes

-- the bytes are the text of the one circuit
pub record IsCircuitText (p : Programs) (bytes : List ℕ) : Type 0 where
  pub circuit : OneView
  pub one : IsOneCircuit p circuit
  pub whole : bytes ≡ circuit_text p circuit

-- the ideal run ends early, and the bytes are the line of the ranks that wait
pub record WaitsWith (p : Programs) (bytes : List ℕ) : Type 0 where
  pub left : ℕ
  pub early : EndsEarly p left
  pub whole : bytes ≡ fault_text (line.Waits left)

-- the one circuit needs no more than the capacity of the version and no letter leaves the range, and the bytes are its state text
pub record IsAmplitudesText (p : Programs) (bytes : List ℕ) : Type 0 where
  pub circuit : OneView
  pub one : IsOneCircuit p circuit
  pub narrow : circuit.width ≤ most_capacity p.version
  pub fits : NeverOverflows circuit.letters
  pub text : IsOneText p bytes

-- the one circuit needs more than the capacity of the version, and the bytes are the line of its width
pub record WideWith (p : Programs) (bytes : List ℕ) : Type 0 where
  pub circuit : OneView
  pub one : IsOneCircuit p circuit
  pub wide : most_capacity p.version < circuit.width
  pub whole : bytes ≡ fault_text (line.Wide circuit.width)

-- a letter of the one circuit leaves the range, and the bytes are the line of the first that does
pub record OverflowsWith (p : Programs) (bytes : List ℕ) : Type 0 where
  pub circuit : OneView
  pub one : IsOneCircuit p circuit
  pub narrow : circuit.width ≤ most_capacity p.version
  pub at : ℕ
  pub first : IsFirstOverflow circuit.letters at
  pub whole : bytes ≡ fault_text (line.LetterOverflow at)

-- the bytes are the check text, which says whether the rendezvous run ends
pub record IsCheckText (p : Programs) (bytes : List ℕ) : Type 0 where
  pub meets : Bool
  pub so : IsTrue meets ↔ RendezvousEnds p
  pub whole : bytes ≡ check_text p meets

-- ---- the table: each status that a command may have, and the bytes that are due with it
-- for programs that have no fault
pub data DueReady (p : Programs) (bytes : List ℕ) : Command → Status → Type 0 where
  Ends : (play : Play) → EndsWith play p bytes → DueReady p bytes (command.Run play) status.Ok
  Stops : (play : Play) → StopsWith play p bytes → DueReady p bytes (command.Run play) status.Stopped
  Works : (r : Recipe) → WorksTo true r p bytes → DueReady p bytes (command.Job r) status.Ok
  Breaks : (r : Recipe) → WorksTo false r p bytes → DueReady p bytes (command.Job r) status.Stopped
  Costs : (seed : ℕ) (d : Delays) → CostsTo true seed d p bytes → DueReady p bytes (command.Cost seed d) status.Ok
  CostsNone : (seed : ℕ) (d : Delays) → CostsTo false seed d p bytes → DueReady p bytes (command.Cost seed d) status.Stopped
  Draws : IsCircuitText p bytes → DueReady p bytes command.Mono status.Ok
  DrawsNone : WaitsWith p bytes → DueReady p bytes command.Mono status.Waits
  Values : IsAmplitudesText p bytes → DueReady p bytes command.MonoAmps status.Ok
  ValuesNone : WaitsWith p bytes → DueReady p bytes command.MonoAmps status.Waits
  TooWide : WideWith p bytes → DueReady p bytes command.MonoAmps status.Wide
  Overflows : OverflowsWith p bytes → DueReady p bytes command.MonoAmps status.LetterOverflow
  Checks : IsCheckText p bytes → DueReady p bytes command.Check status.Ok

-- for the text of a command's program: it is written, it is refused where the source gave it, or it reads as programs that have no fault
pub data DueOf (text bytes : List ℕ) : Command → Status → Type 0 where
  Made : (r : Recipe) → bytes ≡ text → DueOf text bytes (command.Gen r) status.Ok
  Refused : (c : Command) → made_of c ≡ None → RefusedWith text bytes → DueOf text bytes c status.Refused
  Ready : (c : Command) (s : Status) (p : Programs) → ReadsReady text p → DueReady p bytes c s → DueOf text bytes c s

-- for what words are, and all bytes that a source has
pub data Due (given bytes : List ℕ) : Option Command → Status → Type 0 where
  NoCommand : bytes ≡ fault_text line.Usage → Due given bytes None status.Usage
  TooMuch : (c : Command) → made_of c ≡ None → MOST_BYTES < length given → bytes ≡ fault_text line.TooLong
      → Due given bytes (Some c) status.TooLong
  Whole : (c : Command) (s : Status) → (made_of c ≡ None → length given ≤ MOST_BYTES) → DueOf (text_or (made_of c) given) bytes c s
      → Due given bytes (Some c) s

-- ---- texts of which no run stops
-- the text reads as programs of which no legal schedule comes to a refused event, and none to a stuck state or the rendezvous run ends
pub record IsSure (text : List ℕ) : Type 0 where
  pub programs : Programs
  pub reads : ReadsReady text programs
  pub never_refused : NeverRefused programs
  pub never_stuck : NeverStuck programs ⊎ RendezvousEnds programs

-- ---- laws
-- the words and the text alone settle what is due, if this status is: the command runs nothing, or in an order that its words name, or
-- the status is none with which a run comes to its end
abbrev pub IsSettled : Option Command → Status → Type 0
IsSettled (Some (command.Run play)) status.Ok = order_words play.order ≢ None
IsSettled (Some (command.Run play)) status.Stopped = order_words play.order ≢ None
IsSettled o s = Unit {0}

-- where they settle it, one status and one text alone is due
abbrev pub OneAnswer : Type 0
OneAnswer = (o : Option Command) (given : List ℕ) (s s' : Status) (bytes bytes' : List ℕ)
    → IsSettled o s → Due given bytes o s → Due given bytes' o s' → (s ≡ s') × (bytes ≡ bytes')

-- a status and a text are due for all words and all bytes that a source may have
abbrev pub SomeAnswer : Type 0
SomeAnswer = (words : List (List ℕ)) (given : List ℕ) → (s : Status) × (bytes : List ℕ) × Due given bytes (command_of words) s

-- programs have one text of their one circuit at most
abbrev pub OneText : Type 0
OneText = (p : Programs) (text text' : List ℕ) → IsOneText p text → IsOneText p text' → text ≡ text'

-- bytes that are due for a run that ends are those that are due for the amplitudes of the one circuit, and the block; and the ideal run
-- doesn't end early
pub record AgreesWithRun (play : Play) (text bytes : List ℕ) : Type 0 where
  pub amplitudes : (state : List ℕ) → DueOf text state command.MonoAmps status.Ok → OnReady (λ p. IsWithBlock play p state) text bytes
  pub goes_on : (c : Command) (other : List ℕ) → ¬ DueOf text other c status.Waits

-- where a running command ends well, the bytes that are due agree with the one circuit
abbrev pub OneCircuitLaw : Type 0
OneCircuitLaw = (play : Play) (text bytes : List ℕ) → DueOf text bytes (command.Run play) status.Ok → AgreesWithRun play text bytes
