-- The orders of turns that were worked out by hand, which compute
use Rattle.std.proofs.Common.{◌≡◌, ℕ, ◌<◌, true, refl, inl, lit<}
use Rattle.qm_proto.specs.WorkedPrograms.{three_programs}
use Rattle.qm_proto.specs.WorkedTurns.{WorkedTurns}
use Rattle.qm_proto.specs.Model.State.{Tables}
use Rattle.qm_proto.specs.Model.Runs.{enabled}
use Rattle.qm_proto.specs.Model.Orders.{rank_on, IsFirstAround}
use Rattle.qm_proto.proofs.Meetings.{none_below, false_below}

-- what is left to compute for a turn
turn : (t : Tables) (start steps r : ℕ) → steps < 3 → r ≡ rank_on three_programs start steps → enabled three_programs t r ≡ true
    → none_below (λ k. enabled three_programs t (rank_on three_programs start k)) steps ≡ true → IsFirstAround three_programs t start r
turn t start steps r few place able before =
    record { steps = steps; few = few; place = place; able = able; before = false_below _ steps before }

pub worked_turns : WorkedTurns
worked_turns =
    record {
      around = (
        turn _ 1 0 1 (lit< tt) refl refl refl,
        tt,
        (
          turn _ 1 1 2 (lit< tt) refl refl refl,
          tt,
          (turn _ 1 2 0 (lit< tt) refl refl refl, tt, inl (false_below _ 3 refl)),
        ),
      );
      by_words = (
        turn _ 2 0 2 (lit< tt) refl refl refl,
        tt,
        (
          turn _ 1 0 1 (lit< tt) refl refl refl,
          tt,
          (turn _ 0 0 0 (lit< tt) refl refl refl, tt, inl (false_below _ 3 refl)),
        ),
      );
    }
