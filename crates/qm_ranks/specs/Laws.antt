-- The laws of the orders of turns
use Rattle.std.specs.Prelude.{◌≡◌, ◌%◌, ◌↔◌, List, ◌++◌, ℕ, length}
use Rattle.qm_instr.specs.Programs.{Programs}
use Rattle.qm_proto.specs.Model.State.{State}
use Rattle.qm_proto.specs.Model.Schedules.{replay, IsLegal, IsFirstFrom}
use Rattle.qm_proto.specs.Model.Orders.{Words, IsOrderFrom, IsEndAround, from_the_lowest}

-- two runs from one state by the same words are the same
abbrev pub OneOrder : Type 0
OneOrder = (p : Programs) (s : State) (w : Words) (xs ys : List ℕ) → IsOrderFrom p s w xs → IsOrderFrom p s w ys → xs ≡ ys

-- by words that are all 0 the lowest enabled rank is taken
abbrev pub LowestOrder : Type 0
LowestOrder = (p : Programs) (s : State) (rs : List ℕ) → IsOrderFrom p s from_the_lowest rs ↔ IsFirstFrom p s rs

-- the schedule that a run leaves is legal, and the run ends at its end
pub record GoesOnLegally (p : Programs) (before more : List ℕ) (w : Words) : Type 0 where
  pub legal : IsLegal p (before ++ more)
  pub ended : IsEndAround p (replay p (before ++ more)) (w (length more) % length p.ranks)

-- after a legal schedule each run by words goes on legally, to its end
abbrev pub LegalOrder : Type 0
LegalOrder =
    (p : Programs) (before more : List ℕ) (w : Words)
    → IsLegal p before → IsOrderFrom p (replay p before) w more → GoesOnLegally p before more w

-- for all words there is a run from the end of a legal schedule
abbrev pub SomeOrder : Type 0
SomeOrder = (p : Programs) (before : List ℕ) (w : Words) → IsLegal p before → (more : List ℕ) × IsOrderFrom p (replay p before) w more
