-- The ideal run that always steps the lowest enabled rank
use Rattle.std.specs.Prelude.{◌≡◌, ℕ, ◌<◌, ◌⊎◌, true, List, length}
use Rattle.qm_instr.specs.Programs.{Programs}
use Rattle.qm_proto.specs.Model.Ideal.{IdealTables, ideal_replay, IsOneRun, has_instr, AllDone}

-- some rank has an instruction left
abbrev pub HasInstrLeft : Programs → IdealTables → Type 0
HasInstrLeft p t = (r : ℕ) × (r < length p.ranks) × (has_instr p t r ≡ true)

-- there is one, and no other; where no rank is enabled any more, no rank has an instruction left, or some rank has one
pub record HasOneRun (p : Programs) : Type 0 where
  pub ranks : List ℕ
  pub run : IsOneRun p ranks
  pub only : (other : List ℕ) → IsOneRun p other → other ≡ ranks
  pub ends : AllDone p (ideal_replay p ranks).tables ⊎ HasInstrLeft p (ideal_replay p ranks).tables

-- whatever the programs
abbrev pub OneRunLaw : Type 0
OneRunLaw = (p : Programs) → HasOneRun p
