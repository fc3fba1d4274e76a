-- The run of the lowest enabled ranks, as far as it has come
use Rattle.std.specs.Prelude.{◌≡◌, ℕ, ◌-◌, List, fold, length}
use Rattle.qm_instr.specs.Programs.{Programs, rank_of}
use Rattle.qm_proto.specs.Model.Ideal.{IdealTables, IdealState, ideal_next, ideal_at_start, ideal_replay, IsOneRun}
use Rattle.qm_confluence.specs.Drawn.{IsLowestFrom}
use Rattle.qm_proto.specs.Model.Totals.{sum_below}

-- the state is one that the run comes through
pub record IsOnTheWay (p : Programs) (s : IdealState) : Type 0 where
  pub ranks : List ℕ
  pub lowest : IsLowestFrom p (ideal_at_start p) ranks
  pub state : fold (ideal_next p) (ideal_at_start p) ranks ≡ s

-- the state is its end
pub record IsItsEnd (p : Programs) (s : IdealState) : Type 0 where
  pub ranks : List ℕ
  pub run : IsOneRun p ranks
  pub state : ideal_replay p ranks ≡ s

-- how many instructions are left
abbrev pub instructions_left : Programs → IdealTables → ℕ
instructions_left p t = sum_below (λ r. length (rank_of p r).instructions - (t.parts r).at) (length p.ranks)
