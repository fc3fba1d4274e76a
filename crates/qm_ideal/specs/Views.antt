-- The ideal tables that the code keeps
use Rattle.std.specs.Prelude.{ℕ, Bool, false, List, [], map, replicate, Option, Some, None, slice_get, slice_index_or}
use Rattle.qm_denot.specs.declared.Wire.{Wire}
use Rattle.qm_limits.specs.declared.TheConstants.{SLOTS, BITS}
use Rattle.qm_proto.specs.Model.Ideal.{IdealPart, IdealTables, IdealState, width}
use Rattle.qm_ideal.specs.declared.run.Run.{Run}
use Rattle.qm_ideal.specs.declared.tables.IdealRank.{IdealRank}
use Rattle.qm_ideal.specs.declared.tables.Tables.{Tables}
use Rattle.qm_instr.specs.Programs.{Programs}
use Rattle.qm_confluence.proofs.Confluence.Told.{filled_state}
use Rattle.qm_ideal.specs.OneRuns.{IsItsEnd}
use Rattle.qm_ideal.specs.Lanes.{lanes_of}
use Rattle.qm_ideal.specs.Meanings.{load_meant}
use Rattle.qm_ideal.specs.OneCircuits.{RankEnd, OneView, wires_in}

-- a rank, without its own tape
abbrev pub part_of : IdealRank → IdealPart
part_of k = record { at = k.at; made = k.made; bits = k.bits; own = [] }

-- a rank before its first instruction
abbrev pub rank_at_start : IdealRank
rank_at_start = record { at = 0; made = 0; bits = replicate BITS false; slots = replicate SLOTS None }

-- a rank that there isn't stands at the start of its program
abbrev pub part_in : Option IdealRank → IdealPart
part_in None = part_of rank_at_start
part_in (Some k) = part_of k

-- the ranks of a list
abbrev pub parts_at : List IdealRank → ℕ → IdealPart
parts_at ranks r = part_in (slice_get ranks r)

-- the wires in a rank's slots
abbrev pub slot_in : Option IdealRank → ℕ → Option Wire
slot_in None q = None
slot_in (Some k) q = slice_index_or k.slots q None

-- the wires in the slots of a list's ranks
abbrev pub slots_at : List IdealRank → ℕ → ℕ → Option Wire
slots_at ranks r q = slot_in (slice_get ranks r) q

-- a rank's bits
abbrev pub bits_in : Option IdealRank → List Bool
bits_in None = replicate BITS false
bits_in (Some k) = k.bits

-- the ideal tables, without the ranks' own tapes
abbrev pub tables_of : Tables → IdealTables
tables_of t =
    record {
      parts = parts_at t.ranks.items;
      slots = slots_at t.ranks.items;
      lanes = λ a. map load_meant (lanes_of t.lanes a);
    }

-- the tables and the letters of a run
abbrev pub state_of : Run → IdealState
state_of x = record { tables = tables_of x.tables; circuit = x.letters.items }

-- a rank at the end of a run
abbrev pub end_of : IdealRank → RankEnd
end_of k = record { bits = k.bits; slots = k.slots }

-- all ranks at the end of a run
abbrev pub ends_of : Tables → List RankEnd
ends_of t = map end_of t.ranks.items

-- the circuit of a run of so many ranks, and its width
abbrev pub view_of_run : ℕ → Run → OneView
view_of_run n x =
    record {
      letters = x.letters.items;
      ranks = ends_of x.tables;
      width = width x.letters.items (wires_in (slots_at x.tables.ranks.items) n);
    }

-- the run of these programs ends so, with some outcomes left on the tapes
abbrev pub IsTapedEnd : Programs → Run → Type 0
IsTapedEnd p x = (left : ℕ → List Bool) × IsItsEnd p (filled_state left (state_of x))
