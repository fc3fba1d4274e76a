-- What a machine shows, what its type keeps, and what a step makes of it
use Rattle.std.specs.Prelude.{◌≡◌, ◌≢◌, ℕ, ◌<◌, ◌≤◌, ◌↔◌, ◌⊎◌, true, false, List, [], ◌∷◌, ◌++◌, Option, Some, None, Ok, length, count_by, Contains}
use Rattle.qm_denot.specs.declared.Wire.{Wire}
use Rattle.qm_denot.specs.Stores.{Store, StandsFor}
use Rattle.qm_limits.specs.declared.TheConstants.{MOST_EVENTS}
use Rattle.qm_instr.specs.declared.Lane.{Lane}
use Rattle.qm_instr.specs.Programs.{Programs, IsInRange}
use Rattle.qm_check.specs.Checks.{IsReady, capacity_of}
use Rattle.qm_check.specs.Messages.{lane_sends}
use Rattle.qm_expand.specs.Reading.{Reads}
use Rattle.qm_proto.specs.declared.Cause.{Cause}
use Rattle.qm_proto.specs.declared.Cause.TheVariants as cause
use Rattle.qm_proto.specs.declared.Event.{Event}
use Rattle.qm_proto.specs.declared.Row.{Row}
use Rattle.qm_proto.specs.declared.Rule.{Rule}
use Rattle.qm_proto.specs.declared.Rule.TheVariants.{Always, PairRoom, Engaged, Filled}
use Rattle.qm_proto.specs.Model.State.{State, Tables}
use Rattle.qm_proto.specs.Model.Runs.{row_next, enabled, has_event, IsRefused}
use Rattle.qm_proto.specs.Model.Schedules.{replay, IsLegal, IsStuck, IsLowestLeft, MayStep, AllEnded}
use Rattle.qm_proto.specs.Model.Places.{IsPlaced}
use Rattle.qm_proto.specs.Model.Tidy.{IsTidy}
use Rattle.qm_simulation.specs.Following.Simulation.{Simulates}
use Rattle.qm_simulation.specs.Headline.{ComesToOne}
use Rattle.qm_safety.specs.Safety.States.{IsSafe}
use Rattle.qm_proto.specs.Model.Totals.{event_total}
use Rattle.qm_simulation.specs.Weighing.Weights.{IsWeighed}
use Rattle.qm_machine.specs.declared.Halt.{Halt}
use Rattle.qm_machine.specs.declared.State as answer
use Rattle.qm_machine.specs.declared.State.TheVariants as state
use Rattle.qm_machine.specs.declared.Step.{Step}
use Rattle.qm_machine.specs.declared.Step.TheVariants as step
use Rattle.qm_machine.specs.declared.Why.{Why}
use Rattle.qm_machine.specs.declared.Why.TheVariants.{LaneEmpty, NoRoom, PartnerElsewhere}
use Rattle.qm_machine.specs.Facts.{Facts, AreSound, is_pauli, sizes_of}

-- the text, its programs, the schedule so far, the halt where a step halted the machine, and the store
pub record MachineView (A : Type 0) : Type 0 where
  pub text : List ℕ
  pub programs : Programs
  pub schedule : List ℕ
  pub halted : Option Halt
  pub amps : A

-- the state that the schedule leaves
abbrev pub state_of : {A : Type 0} → MachineView A → State
state_of m = replay m.programs m.schedule

-- some rank has events left and none is enabled, and the halt names the lowest that has
pub record HaltsStuck (p : Programs) (s : State) (h : Halt) : Type 0 where
  pub cause_so : h.cause ≡ cause.Stuck
  pub stuck : IsStuck p s.tables
  pub lowest : IsLowestLeft p s.tables h.rank

-- the rank that the halt names is enabled, and refused for its cause
pub record HaltsRefused (p : Programs) (s : State) (h : Halt) : Type 0 where
  pub known : h.rank < length p.ranks
  pub able : enabled p s.tables h.rank ≡ true
  pub refused : IsRefused p s h.rank h.cause

-- the halt stands at the schedule's end
pub record HaltsAt (p : Programs) (schedule : List ℕ) (h : Halt) : Type 0 where
  pub turns : h.turns ≡ length schedule
  pub why : HaltsStuck p (replay p schedule) h ⊎ HaltsRefused p (replay p schedule) h

-- a halt, where there is one, stands at the schedule's end
abbrev pub MayHalt : Programs → List ℕ → Option Halt → Type 0
MayHalt p schedule None = Unit {0}
MayHalt p schedule (Some h) = HaltsAt p schedule h

-- the halt of a rank at the schedule's end
abbrev pub halt_of : ℕ → List ℕ → Cause → Halt
halt_of r schedule c = record { rank = r; turns = length schedule; cause = c }

-- what every machine keeps: its programs are the reading of its text, and have no fault; its schedule is legal, its store stands for the
-- circuit of the schedule's replay and its live wires are those that have a place there, its state is safe, and a halt stands at the
-- schedule's end. The schedule is simulated by its ideal run; its circuit is not zero, and each outcome of a protocol tape halves its
-- weight; and where no rank has an event left, it comes to the one circuit of the programs
pub record Keeps {A : Type 0} (store : A → Store) (m : MachineView A) : Type 0 where
  pub reads : Reads m.text (Ok m.programs)
  pub ready : IsReady m.programs
  pub in_range : IsInRange m.programs
  pub legal : IsLegal m.programs m.schedule
  pub short : length m.schedule ≤ MOST_EVENTS
  pub stands : StandsFor (store m.amps) (state_of m).circuit
  pub placed : (w : Wire) → Contains (store m.amps).live w ↔ IsPlaced (state_of m).tables w
  pub tidy : IsTidy (state_of m).tables
  pub safe : IsSafe m.programs m.schedule
  pub simulated : Simulates m.programs m.schedule
  pub weighed : IsWeighed m.programs m.schedule
  pub ends : AllEnded m.programs (state_of m).tables → (ranks : List ℕ) × ComesToOne m.programs m.schedule ranks
  pub room : capacity_of m.programs ≤ (store m.amps).capacity
  pub halt : MayHalt m.programs m.schedule m.halted

-- ---- a rank's next event
-- its name, where there is one
abbrev pub event_of : Option Row → Option Event
event_of None = None
event_of (Some w) = Some w.event

-- what a rank lacks where a rule doesn't hold
abbrev pub lacking : Rule → Option Why
lacking Always = None
lacking (PairRoom a) = Some NoRoom
lacking (Engaged a) = Some PartnerElsewhere
lacking (Filled a) = Some LaneEmpty

-- and where the rule of its next event doesn't
abbrev pub why_of : Option Row → Option Why
why_of None = None
why_of (Some w) = lacking w.rule

-- ---- what a step answers

-- the same text, programs, schedule, halt and contents of the store
pub record IsSame {A : Type 0} (store : A → Store) (m n : MachineView A) : Type 0 where
  pub text : n.text ≡ m.text
  pub programs : n.programs ≡ m.programs
  pub schedule : n.schedule ≡ m.schedule
  pub halted : n.halted ≡ m.halted
  pub contents : store n.amps ≡ store m.amps

-- a rank's event was done: the schedule has one entry more
pub record StepDid {A : Type 0} (store : A → Store) (m : MachineView A) (r : ℕ) (event : Event) (n : MachineView A) : Type 0 where
  pub running : m.halted ≡ None
  pub may : MayStep m.programs (state_of m) r
  pub event_so : event_of (row_next m.programs (state_of m).tables r) ≡ Some event
  pub text : n.text ≡ m.text
  pub programs : n.programs ≡ m.programs
  pub schedule : n.schedule ≡ m.schedule ++ r ∷ []
  pub short : length n.schedule ≤ MOST_EVENTS
  pub still : n.halted ≡ None

-- a rank has an event left that is not enabled, while some rank may go on
pub record StepBlocked {A : Type 0} (store : A → Store) (m : MachineView A) (r : ℕ) (why : Why) (n : MachineView A) : Type 0 where
  pub running : m.halted ≡ None
  pub left : has_event m.programs (state_of m).tables r ≡ true
  pub unable : enabled m.programs (state_of m).tables r ≡ false
  pub moves : ¬ IsStuck m.programs (state_of m).tables
  pub why_so : why_of (row_next m.programs (state_of m).tables r) ≡ Some why
  pub same : IsSame store m n

-- a rank has no event left
pub record StepEnded {A : Type 0} (store : A → Store) (m : MachineView A) (r : ℕ) (n : MachineView A) : Type 0 where
  pub running : m.halted ≡ None
  pub none : has_event m.programs (state_of m).tables r ≡ false
  pub same : IsSame store m n

-- the machine is halted now: the state is stuck, or the rank's event is enabled and refused
pub record StepHalts {A : Type 0} (store : A → Store) (m : MachineView A) (r : ℕ) (n : MachineView A) : Type 0 where
  pub running : m.halted ≡ None
  pub left : has_event m.programs (state_of m).tables r ≡ true
  pub halt : Halt
  pub why : HaltsAt m.programs m.schedule halt
  pub who : (halt.rank ≡ r) ⊎ IsStuck m.programs (state_of m).tables
  pub new : IsSame store (record m { halted = Some halt }) n

-- the machine was halted before
pub record StepStays {A : Type 0} (store : A → Store) (m : MachineView A) (n : MachineView A) : Type 0 where
  pub halted : m.halted ≢ None
  pub same : IsSame store m n

-- the answer to a step of rank r, from the machine before it to the machine after it
abbrev pub StepIs : {A : Type 0} → (A → Store) → MachineView A → ℕ → Step → MachineView A → Type 0
StepIs store m r (step.Did event) n = StepDid store m r event n
StepIs store m r (step.Blocked why) n = StepBlocked store m r why n
StepIs store m r step.Ended n = StepEnded store m r n
StepIs store m r step.Halted n = StepStays store m n ⊎ StepHalts store m r n

-- ---- what a step may assume on its way
-- the machine isn't halted, and rank r's next event, which this line has, is enabled
pub record MayGo {A : Type 0} (m : MachineView A) (r : ℕ) (w : Row) : Type 0 where
  pub running : m.halted ≡ None
  pub known : r < length m.programs.ranks
  pub next : row_next m.programs (state_of m).tables r ≡ Some w
  pub able : enabled m.programs (state_of m).tables r ≡ true

-- the machine isn't halted, and rank r's next event isn't enabled, for this reason
pub record MustWait {A : Type 0} (m : MachineView A) (r : ℕ) (why : Why) : Type 0 where
  pub running : m.halted ≡ None
  pub known : r < length m.programs.ranks
  pub left : has_event m.programs (state_of m).tables r ≡ true
  pub unable : enabled m.programs (state_of m).tables r ≡ false
  pub why_so : why_of (row_next m.programs (state_of m).tables r) ≡ Some why

-- ---- what a machine tells of its state

-- some rank has an event left
abbrev pub HasLeft : Programs → Tables → Type 0
HasLeft p t = (r : ℕ) × (r < length p.ranks) × (has_event p t r ≡ true)

-- the machine is not halted, and some rank has an event left
pub record Runs {A : Type 0} (m : MachineView A) : Type 0 where
  pub running : m.halted ≡ None
  pub left : HasLeft m.programs (state_of m).tables

-- it is not halted, and no rank has one
pub record HasEnded {A : Type 0} (m : MachineView A) : Type 0 where
  pub running : m.halted ≡ None
  pub ended : AllEnded m.programs (state_of m).tables

-- the answer tells the machine's state: some rank has an event left, none has, or this halt stands
abbrev pub StateIs : {A : Type 0} → MachineView A → answer.State → Type 0
StateIs m state.Running = Runs m
StateIs m state.AllEnded = HasEnded m
StateIs m (state.Halted h) = m.halted ≡ Some h

-- ---- how a machine is kept

-- the programs are the reading of the text, the body is the schedule's replay, and there is room for every entry that the schedule may
-- have
pub record IsKept (text : List ℕ) (p : Programs) (schedule : List ℕ) (h : Option Halt) (f : Facts) (room : ℕ) : Type 0 where
  pub reads : Reads text (Ok p)
  pub ready : IsReady p
  pub in_range : IsInRange p
  pub legal : IsLegal p schedule
  pub tables : f.tables ≡ (replay p schedule).tables
  pub stands : StandsFor f.store (replay p schedule).circuit
  pub letters : f.letters ≡ length (replay p schedule).circuit
  pub paulis : f.paulis ≡ count_by is_pauli (replay p schedule).circuit
  pub parcels : (a : Lane) → lane_sends p a ≤ f.parcels a
  pub ranks : f.ranks ≡ length p.ranks
  pub sound : AreSound f
  pub wires : capacity_of p ≤ f.places.capacity
  pub sizes : f.sizes ≡ sizes_of p
  pub turns : event_total p ≤ room
  pub halt : MayHalt p schedule h
