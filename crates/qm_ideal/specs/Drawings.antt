-- Runs whose own outcomes are drawn: the letters that were taken, the outcomes that were given, and the stop that was answered
use Rattle.std.specs.Prelude.{◌≡◌, ℕ, ◌-◌, ◌<◌, ◌^◌, Bool, List, [], ◌∷◌, ◌++◌, Option, Some, None, option_to_list, length, take, slice_get}
use Rattle.qm_denot.specs.declared.Wire.{Wire}
use Rattle.qm_denot.specs.declared.Letter.{Letter}
use Rattle.qm_denot.specs.declared.Letter.TheVariants.{Keep}
use Rattle.qm_denot.specs.Circuits.{Circuit}
use Rattle.qm_denot.specs.Weights.{operands}
use Rattle.qm_instr.specs.Programs.{Programs}
use Rattle.qm_proto.specs.Model.Ideal.{ideal_replay, IsOneRun}
use Rattle.qm_confluence.specs.Letters.{NoneGone, IsGoodAfter}
use Rattle.qm_confluence.specs.Drawn.{Outcome, outcomes_for, AreKeeps}
use Rattle.qm_confluence.specs.Tapes.{with_tapes, AreLong}
use Rattle.qm_ideal.specs.declared.draw.Stop.{Stop}
use Rattle.qm_ideal.specs.declared.DrawnError.{DrawnError}
use Rattle.qm_ideal.specs.declared.DrawnError.TheVariants as error
use Rattle.qm_ideal.specs.OneCircuits.{OneView, IsOneCircuit}

-- what was asked: that a letter be taken, or the outcome of a rank's measurement of a wire
pub data Asked : Type 0 where
  OfLetter : Letter → Asked
  OfOutcome : (rank : ℕ) → Wire → Asked

-- a stop, with the call that it answered
pub record Kept : Type 0 where
  pub why : Stop
  pub asked : Asked

-- the letters taken, the outcomes given in their order, and the stop that was answered, or none
pub record Drawing : Type 0 where
  pub letters : Circuit
  pub outcomes : List Outcome
  pub stop : Option Kept

-- these letters and outcomes, and no stop
abbrev pub drawing : Circuit → List Outcome → Drawing
drawing c xs = record { letters = c; outcomes = xs; stop = None }

-- nothing taken, nothing given, and no stop
abbrev pub nothing_drawn : Drawing
nothing_drawn = drawing [] []

-- a letter more, an outcome more, and a stop
abbrev pub with_letter_taken : Drawing → Letter → Drawing
with_letter_taken d l = record d { letters = d.letters ++ l ∷ [] }

abbrev pub with_outcome : Drawing → ℕ → Wire → Bool → Drawing
with_outcome d r w m = record d { outcomes = d.outcomes ++ record { rank = r; wire = w; at = length d.letters; value = m } ∷ [] }

abbrev pub with_stop : Drawing → Stop → Asked → Drawing
with_stop d why asked = record d { stop = Some (record { why = why; asked = asked }) }

-- ---- what may be asked
-- no stop is kept, a letter more can be counted, and none of these wires was taken away
pub record MayAsk (d : Drawing) (ws : List Wire) : Type 0 where
  pub going : d.stop ≡ None
  pub few : length d.letters < 2 ^ 32 - 1
  pub here : NoneGone d.letters ws

-- and the letter is one that a store can do after those taken
pub record MayTake (d : Drawing) (l : Letter) : Type 0 where
  pub asked : MayAsk d (operands l)
  pub good : IsGoodAfter d.letters l

-- ---- programs whose own tapes were drawn
-- the programs with the outcomes given as their own tapes
abbrev pub drawn : Programs → List Outcome → Programs
drawn p xs = with_tapes p (λ r. outcomes_for r xs)

-- own tapes of the right lengths, those that the programs have, which begin with the outcomes given
pub record Begin (p : Programs) (xs : List Outcome) (own : ℕ → List Bool) : Type 0 where
  pub long : AreLong p own
  pub first : (r : ℕ) → take (length (outcomes_for r xs)) (own r) ≡ outcomes_for r xs

-- ---- a run to its end
-- no stop was answered; the run of the programs with the outcomes given as own tapes has the letters taken, and m is its circuit
pub record RunsDrawn (p : Programs) (m : OneView) (d : Drawing) : Type 0 where
  pub going : d.stop ≡ None
  pub circuit : IsOneCircuit (drawn p d.outcomes) m
  pub letters : d.letters ≡ m.letters
  pub keeps : AreKeeps (drawn p d.outcomes) circuit.ranks d.letters d.outcomes

-- what holds of a draw at the end
abbrev pub IsDrawnCircuit : Programs → (Drawing → Type 0) → OneView → Type 0
IsDrawnCircuit p draws m = (d : Drawing) × draws d × RunsDrawn p m d

-- ---- a run that was stopped
-- the call was for letter number `at` of a circuit, or for the measurement whose Keep it is
abbrev pub IsNextAsked : Circuit → ℕ → Asked → Type 0
IsNextAsked c at (OfLetter l) = slice_get c at ≡ Some l
IsNextAsked c at (OfOutcome r w) = (m : Bool) × (slice_get c at ≡ Some (Keep w m))

-- an outcome whose Keep wasn't taken has the place of the letter that was asked for next
abbrev pub IsAt : ℕ → Option Outcome → Type 0
IsAt at None = Unit {0}
IsAt at (Some x) = x.at ≡ at

-- the run of these programs begins with the letters taken, goes on with what was asked, and measured so
pub record IsBegun (q : Programs) (ranks : List ℕ) (d : Drawing) (xs : List Outcome) (asked : Asked) : Type 0 where
  pub letters : take (length d.letters) (ideal_replay q ranks).circuit ≡ d.letters
  pub next : IsNextAsked (ideal_replay q ranks).circuit (length d.letters) asked
  pub keeps : AreKeeps q ranks d.letters xs

-- a call was answered by this stop, when `at` letters were taken: so begins the run with any own tapes of the right lengths that begin with
-- the outcomes given, and there are such tapes
pub record StopsDrawn (p : Programs) (at : ℕ) (why : Stop) (d : Drawing) : Type 0 where
  pub asked : Asked
  pub stop : d.stop ≡ Some (record { why = why; asked = asked })
  pub taken : length d.letters ≡ at
  pub kept : List Outcome
  pub waiting : Option Outcome
  pub outcomes : d.outcomes ≡ kept ++ option_to_list waiting
  pub place : IsAt at waiting
  pub tapes : (own : ℕ → List Bool) × Begin p d.outcomes own
  pub begun : (own : ℕ → List Bool) (ranks : List ℕ) → Begin p d.outcomes own → IsOneRun (with_tapes p own) ranks
      → IsBegun (with_tapes p own) ranks d kept asked

-- why a run whose outcomes are drawn has no end
abbrev pub ExplainsDrawn : Programs → (Drawing → Type 0) → DrawnError → Type 0
ExplainsDrawn p draws (error.Stopped at why) = (d : Drawing) × draws d × StopsDrawn p at why d
ExplainsDrawn p draws error.Memory = Unit {0}
