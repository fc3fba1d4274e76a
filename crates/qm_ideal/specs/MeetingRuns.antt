-- The rendezvous run as far as it has come, by where the ranks stand
use Rattle.std.specs.Prelude.{◌≡◌, ℕ, ◌-◌, ◌*◌, List, [], ◌∷◌, fold, length}
use Rattle.qm_instr.specs.Programs.{Programs, rank_of}
use Rattle.qm_proto.specs.Model.Runs.{next_tables}
use Rattle.qm_proto.specs.Model.Schedules.{tables_at_start, with_buffers_of_one, IsLowestEnabled, IsMeetingFrom}
use Rattle.qm_proto.specs.Model.State.{Tables}
use Rattle.qm_ideal.specs.Meetings.{Stand, stand_of}
use Rattle.qm_proto.specs.Model.Totals.{sum_below}

-- each rank is the lowest that is enabled after those before it
abbrev pub IsLowestMeeting : Programs → Tables → List ℕ → Type 0
IsLowestMeeting p t [] = Unit {0}
IsLowestMeeting p t (r ∷ rs) = IsLowestEnabled p t r × IsLowestMeeting p (next_tables p t r) rs

-- the run comes to tables in which the ranks stand so
pub record IsOnMeetingsWay (p : Programs) (s : Stand) : Type 0 where
  pub ranks : List ℕ
  pub tables : Tables
  pub lowest : (let q = with_buffers_of_one p in IsLowestMeeting q (tables_at_start q) ranks)
  pub state : (let q = with_buffers_of_one p in fold (next_tables q) (tables_at_start q) ranks ≡ tables)
  pub stand : stand_of tables ≡ s

-- and ends there
pub record IsMeetingsEnd (p : Programs) (s : Stand) : Type 0 where
  pub ranks : List ℕ
  pub run : (let q = with_buffers_of_one p in IsMeetingFrom q (tables_at_start q) ranks)
  pub stand : (let q = with_buffers_of_one p in stand_of (fold (next_tables q) (tables_at_start q) ranks) ≡ s)

-- five for each instruction left, less the events that were done of the one at which a rank stands
abbrev pub stand_left : Programs → Stand → ℕ
stand_left p s =
    let q = with_buffers_of_one p in
    sum_below (λ r. 5 * (length (rank_of q r).instructions - s.at r) - s.stage r) (length q.ranks)
