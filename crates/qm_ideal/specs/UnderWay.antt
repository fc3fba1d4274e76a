-- A run whose outcomes are asked for, as far as it has come
use Rattle.std.specs.Prelude.{◌≡◌, ℕ, ◌<◌, ◌≤◌, Bool, false, List, ◌∷◌, ◌++◌, drop, length, map, slice_index_or, None}
use Rattle.qm_denot.specs.declared.Letter.{Letter}
use Rattle.qm_denot.specs.Circuits.{Circuit}
use Rattle.qm_limits.specs.declared.TheConstants.{MOST_RANKS}
use Rattle.qm_instr.specs.declared.Instr.{Instr}
use Rattle.qm_instr.specs.declared.Instr.TheVariants as instr
use Rattle.qm_instr.specs.Programs.{Programs, rank_of, IsInRange}
use Rattle.qm_check.specs.Checks.{IsReady}
use Rattle.qm_proto.specs.Model.Acts.{list_of}
use Rattle.qm_proto.specs.Model.Ideal.{IdealState, ideal_row_of, ideal_wire_in, ideal_enabled, IsLowestIdeal}
use Rattle.qm_confluence.specs.Drawn.{Outcome, outcomes_for, AreFollowed}
use Rattle.qm_confluence.specs.Told.{told, told_next, without_own}
use Rattle.qm_confluence.proofs.Confluence.Drawn.{IsDrawn, drawn_by}
use Rattle.qm_ideal.specs.declared.draw.Stop.{Stop}
use Rattle.qm_ideal.specs.declared.DrawnError.{DrawnError}
use Rattle.qm_ideal.specs.declared.DrawnError.TheVariants as error
use Rattle.qm_ideal.specs.declared.steps.StepWork.{StepWork}
use Rattle.qm_ideal.specs.Drawings.{Drawing, drawing, with_stop, OfLetter, OfOutcome}
use Rattle.qm_ideal.specs.Meanings.{act_meant}

-- the own tapes of these programs gave the outcomes, which are the first of each rank's, and as many as are used of it; no letter is refused
pub record IsByTapes (input : Programs) (used : List ℕ) (p : Programs) (d : Drawing) : Type 0 where
  pub same : input ≡ p
  pub few : length p.ranks ≤ MOST_RANKS
  pub places : length used ≡ MOST_RANKS
  pub going : d.stop ≡ None
  pub followed : AreFollowed d.outcomes p
  pub left : (r : ℕ) → drop (slice_index_or used r 0) (rank_of p r).own ≡ drop (length (outcomes_for r d.outcomes)) (rank_of p r).own

-- these programs have no fault, and rank r, the lowest that is enabled, does its next instruction
pub record IsNext (p : Programs) (s : IdealState) (r : ℕ) : Type 0 where
  pub ready : IsReady p
  pub in_range : IsInRange p
  pub lowest : IsLowestIdeal p s.tables r

-- the outcomes given are those of a run to this state, and the feed took its letters
pub record IsUnderWay (p : Programs) (feeds : Drawing → Type 0) (s : IdealState) : Type 0 where
  pub outcomes : List Outcome
  pub drawn : IsDrawn p s outcomes
  pub fed : feeds (drawing s.circuit outcomes)

-- the step of rank r with some outcome
abbrev pub IsToldStep : Programs → IdealState → ℕ → IdealState → Type 0
IsToldStep p s r u = (m : Bool) × (u ≡ told_next p s r m)

-- ---- the outcome of an instruction
-- the work of rank r's instruction with an outcome, which the feed gave, if it was to be asked
pub record IsWork (p : Programs) (before feeds : Drawing → Type 0) (s : IdealState) (r : ℕ) (i : Instr) (work : StepWork) : Type 0 where
  pub outcome : Bool
  pub letters : list_of work.letters ≡ (ideal_row_of p (told s.tables outcome) r i).letters
  pub acts : map act_meant (list_of work.acts) ≡ without_own (ideal_row_of p (told s.tables outcome) r i).acts
  pub fed : (xs : List Outcome) → before (drawing s.circuit xs) → feeds (drawing s.circuit (xs ++ drawn_by r i outcome s))

-- the feed was asked for the outcome of a wire, and stopped
pub record StopsAsked (before feeds : Drawing → Type 0) (s : IdealState) (r : ℕ) (i : Instr) (at : ℕ) (why : Stop) : Type 0 where
  pub slot : ℕ
  pub bit : ℕ
  pub measures : i ≡ instr.Measure slot bit
  pub taken : at ≡ length s.circuit
  pub fed : (xs : List Outcome) → before (drawing s.circuit xs)
      → feeds (with_stop (drawing s.circuit xs) why (OfOutcome r (ideal_wire_in s.tables r slot)))

abbrev pub ExplainsAsked : (before feeds : Drawing → Type 0) → IdealState → ℕ → Instr → DrawnError → Type 0
ExplainsAsked before feeds s r i (error.Stopped at why) = StopsAsked before feeds s r i at why
ExplainsAsked before feeds s r i error.Memory = Unit {0}

-- ---- the letters of a step
-- after circuit C the feed took some of the letters, and stopped at the next
pub record StopsWriting (before feeds : Drawing → Type 0) (c : Circuit) (ls : List Letter) (at : ℕ) (why : Stop) : Type 0 where
  pub done : List Letter
  pub next : Letter
  pub rest : List Letter
  pub all : ls ≡ done ++ next ∷ rest
  pub taken : at ≡ length (c ++ done)
  pub fed : (xs : List Outcome) → before (drawing c xs) → feeds (with_stop (drawing (c ++ done) xs) why (OfLetter next))

abbrev pub ExplainsWriting : (before feeds : Drawing → Type 0) → Circuit → List Letter → DrawnError → Type 0
ExplainsWriting before feeds c ls (error.Stopped at why) = StopsWriting before feeds c ls at why
ExplainsWriting before feeds c ls error.Memory = Unit {0}

-- no rank is enabled
abbrev pub NoneEnabled : Programs → IdealState → Type 0
NoneEnabled p s = (r : ℕ) → r < length p.ranks → ideal_enabled p s.tables r ≡ false
