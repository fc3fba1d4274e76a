-- The programs of all ranks, as a value of plain lists
use Rattle.std.specs.Prelude.{ℕ, ◌≤◌, Bool, List, [], ◌∷◌, ◌++◌, length, replicate, sum_by, All, slice_index_or, slice_set}
use Rattle.qm_instr.specs.declared.Instr.{Instr}
use Rattle.qm_limits.specs.declared.TheConstants.{MOST_RANKS, SLOTS, MOST_HALVES, MOST_INSTRUCTIONS, MOST_OUTCOMES}
use Rattle.qm_instr.specs.Operands.{HasOperands}

-- one rank: how many slots it has, how many halves its buffer holds, its instructions, and its two tapes of outcomes
pub record RankProgram : Type 0 where
  pub qubits : ℕ
  pub buffer : ℕ
  pub instructions : List Instr
  pub own : List Bool
  pub protocol : List Bool

-- all ranks, by their numbers
pub record Programs : Type 0 where
  pub version : ℕ
  pub ranks : List RankProgram

-- a rank that does nothing, with one slot and a buffer of one
abbrev pub idle_rank : RankProgram
idle_rank = record { qubits = 1; buffer = 1; instructions = []; own = []; protocol = [] }

-- so many ranks that do nothing
abbrev pub idle : ℕ → ℕ → Programs
idle version ranks = record { version = version; ranks = replicate ranks idle_rank }

-- the program of a rank; past the last rank, one that does nothing
abbrev pub rank_of : Programs → ℕ → RankProgram
rank_of p r = slice_index_or p.ranks r idle_rank

-- the programs with another one for rank r
abbrev pub with_rank : Programs → ℕ → RankProgram → Programs
with_rank p r x = record p { ranks = slice_set p.ranks r x }

-- a rank's sizes set
abbrev pub with_sizes : Programs → ℕ → ℕ → ℕ → Programs
with_sizes p r qubits buffer = with_rank p r (record (rank_of p r) { qubits = qubits; buffer = buffer })

-- an instruction at the end of a rank's program
abbrev pub with_instruction : Programs → ℕ → Instr → Programs
with_instruction p r i =
    with_rank p r (record (rank_of p r) { instructions = (rank_of p r).instructions ++ i ∷ [] })

-- an outcome at the end of a rank's own tape
abbrev pub with_own : Programs → ℕ → Bool → Programs
with_own p r m = with_rank p r (record (rank_of p r) { own = (rank_of p r).own ++ m ∷ [] })

-- an outcome at the end of a rank's protocol tape
abbrev pub with_protocol : Programs → ℕ → Bool → Programs
with_protocol p r m = with_rank p r (record (rank_of p r) { protocol = (rank_of p r).protocol ++ m ∷ [] })

-- how many instructions the ranks have together
abbrev pub instruction_total : Programs → ℕ
instruction_total p = sum_by (λ r. length r.instructions) p.ranks

-- a rank's sizes, operands and tapes are in their ranges
pub record IsRankInRange (r : RankProgram) : Type 0 where
  pub some_qubits : 1 ≤ r.qubits
  pub most_qubits : r.qubits ≤ SLOTS
  pub some_buffer : 1 ≤ r.buffer
  pub most_buffer : r.buffer ≤ MOST_HALVES
  pub operands : All (HasOperands r.qubits) r.instructions
  pub own : length r.own ≤ MOST_OUTCOMES
  pub protocol : length r.protocol ≤ MOST_OUTCOMES

-- version 1 or 2, some ranks but not too many, each in its ranges, and not too many instructions over all ranks
pub record IsInRange (p : Programs) : Type 0 where
  pub least_version : 1 ≤ p.version
  pub last_version : p.version ≤ 2
  pub some_ranks : 1 ≤ length p.ranks
  pub most_ranks : length p.ranks ≤ MOST_RANKS
  pub each : All IsRankInRange p.ranks
  pub few : instruction_total p ≤ MOST_INSTRUCTIONS
