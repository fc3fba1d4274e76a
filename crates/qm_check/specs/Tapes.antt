-- The faults of the tapes
use Rattle.std.specs.Prelude.{ℕ, ◌==◌, Bool, true, false, if◌then◌else◌, length, sum_by, Option, Some, None}
use Rattle.qm_instr.specs.Counts.{protocol_of, own_of}
use Rattle.qm_instr.specs.Programs.{Programs, rank_of}
use Rattle.qm_check.specs.declared.Fault.{Fault}
use Rattle.qm_check.specs.declared.Fault.TheVariants as fault

-- the fault of a tape with so many outcomes, of which so many are needed
abbrev pub length_fault : ℕ → Bool → ℕ → ℕ → Option Fault
length_fault r own needs has = if needs == has then None else Some (fault.TapeLength r own needs has)

-- the fault of a rank's own tape, or of its protocol tape
abbrev pub tape_fault : Programs → ℕ → Bool → Option Fault
tape_fault p r true = length_fault r true (sum_by own_of (rank_of p r).instructions) (length (rank_of p r).own)
tape_fault p r false = length_fault r false (sum_by protocol_of (rank_of p r).instructions) (length (rank_of p r).protocol)
