-- What is safe in a state of a run, all of it
use Rattle.std.specs.Prelude.{◌≡◌, ℕ, ◌<◌, true, List, All, length}
use Rattle.qm_instr.specs.Programs.{Programs}
use Rattle.qm_proto.specs.Model.Runs.{enabled, next_letters}
use Rattle.qm_proto.specs.Model.Schedules.{replay}
use Rattle.qm_safety.specs.Safety.Operands.{FindsAll}
use Rattle.qm_safety.specs.Safety.Wires.{KeepsToOwn, HasPlaces}
use Rattle.qm_safety.specs.Safety.Halves.{HasFewHalves}

-- after the schedule each rank finds all that its next event needs, and an enabled event names wires of its own rank alone. A wire has one
-- place at most, and no rank has more halves than its buffer has room for
pub record IsSafe (p : Programs) (schedule : List ℕ) : Type 0 where
  pub finds : (r : ℕ) → r < length p.ranks → FindsAll p (replay p schedule).tables r
  pub own : (r : ℕ) → r < length p.ranks → enabled p (replay p schedule).tables r ≡ true
      → All (KeepsToOwn p (replay p schedule).tables r) (next_letters p (replay p schedule).tables r)
  pub places : HasPlaces p schedule
  pub halves : (r : ℕ) → r < length p.ranks → HasFewHalves p (replay p schedule).tables r
