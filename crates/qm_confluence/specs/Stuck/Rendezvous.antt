-- The rendezvous run of programs, in which every buffer has room for one half
use Rattle.std.specs.Prelude.{◌≡◌, ℕ, ◌⊎◌, List, fold}
use Rattle.qm_instr.specs.Programs.{Programs}
use Rattle.qm_proto.specs.Model.Runs.{next_tables}
use Rattle.qm_proto.specs.Model.Schedules.{tables_at_start, IsMeetingFrom, IsStuck, RendezvousEnds, with_buffers_of_one}
use Rattle.qm_proto.specs.Model.State.{Tables}

-- its entries, up to where no rank is enabled
abbrev pub IsRendezvous : Programs → List ℕ → Type 0
IsRendezvous p schedule = let q = with_buffers_of_one p in IsMeetingFrom q (tables_at_start q) schedule

-- the tables that it leaves
abbrev pub rendezvous_tables : Programs → List ℕ → Tables
rendezvous_tables p schedule = let q = with_buffers_of_one p in fold (next_tables q) (tables_at_start q) schedule

-- there is one, and no other; it ends, or it stops where some rank has an event left and none is enabled, and then it doesn't end
pub record HasRendezvous (p : Programs) : Type 0 where
  pub schedule : List ℕ
  pub run : IsRendezvous p schedule
  pub only : (other : List ℕ) → IsRendezvous p other → other ≡ schedule
  pub ends : RendezvousEnds p ⊎ (IsStuck (with_buffers_of_one p) (rendezvous_tables p schedule) × (¬ RendezvousEnds p))

-- whatever the programs
abbrev pub RendezvousLaw : Type 0
RendezvousLaw = (p : Programs) → HasRendezvous p
