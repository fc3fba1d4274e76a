-- The schedule that always takes the lowest enabled rank, up to its end
use Rattle.std.specs.Prelude.{◌≡◌, ℕ, ◌⊎◌, List}
use Rattle.qm_instr.specs.Programs.{Programs}
use Rattle.qm_proto.specs.declared.Cause.{Cause}
use Rattle.qm_proto.specs.Model.Runs.{IsRefused}
use Rattle.qm_proto.specs.Model.Schedules.{replay, IsLegal, IsStuck, IsLowestEnabled, AllEnded, IsFirst}

-- the lowest enabled rank is refused after the schedule
pub record StopsAtRefusal (p : Programs) (schedule : List ℕ) : Type 0 where
  pub rank : ℕ
  pub lowest : IsLowestEnabled p (replay p schedule).tables rank
  pub cause : Cause
  pub refused : IsRefused p (replay p schedule) rank cause

-- there is one, and no other; it is legal, and at its end no rank has an event left, or the lowest enabled rank is refused, or the state is
-- stuck
pub record HasFirst (p : Programs) : Type 0 where
  pub schedule : List ℕ
  pub first : IsFirst p schedule
  pub only : (other : List ℕ) → IsFirst p other → other ≡ schedule
  pub legal : IsLegal p schedule
  pub ends : AllEnded p (replay p schedule).tables ⊎ (StopsAtRefusal p schedule ⊎ IsStuck p (replay p schedule).tables)

-- whatever the programs
abbrev pub FirstLaw : Type 0
FirstLaw = (p : Programs) → HasFirst p
