-- The programs as far as they are expanded
use Rattle.std.specs.Prelude.{ℕ, ◌+◌, nat_lt, Bool, true, ◌&&◌, List, [], ◌∷◌, ◌++◌, if◌then◌else◌, Ok, Err}
use Rattle.qm_instr.specs.declared.Instr.{Instr}
use Rattle.qm_limits.specs.declared.TheConstants.{BITS, MOST_INSTRUCTIONS, MOST_TURNS}
use Rattle.qm_instr.specs.Operands.{slots_of, bits_of}
use Rattle.qm_instr.specs.Programs.{Programs, rank_of, with_rank, with_instruction, instruction_total}
use Rattle.qm_expand.specs.Steps.{Outcome, ◌>>=◌, OutOfRange, TooMany}

-- the programs of all ranks, and how many turns all loops have had
pub record Draft : Type 0 where
  pub programs : Programs
  pub turns : ℕ

-- the programs after so many turns
abbrev pub draft : Programs → ℕ → Draft
draft programs turns = record { programs = programs; turns = turns }

-- whether each number of a list is below a limit
abbrev pub all_below : ℕ → List ℕ → Bool
all_below most [] = true
all_below most (n ∷ ns) = nat_lt n most && all_below most ns

-- each slot is below the rank's, and each bit is a rank's. Operands are tested before; the slots that a collective makes are tested here
abbrev pub has_operands : ℕ → Instr → Bool
has_operands qubits i = all_below qubits (slots_of i) && all_below BITS (bits_of i)

-- an instruction of a rank at the end of its program, unless the ranks have as many as they may have
abbrev pub counted : ℕ → ℕ → Instr → Draft → Outcome Draft
counted line rank i d =
    if nat_lt (instruction_total d.programs) MOST_INSTRUCTIONS
    then Ok (record d { programs = with_instruction d.programs rank i })
    else Err (TooMany line)

-- the same, but only of an instruction whose slots the rank has, and whose bits there are
abbrev pub with_made : ℕ → ℕ → Instr → Draft → Outcome Draft
with_made line rank i d = if has_operands (rank_of d.programs rank).qubits i then counted line rank i d else Err (OutOfRange line)

-- instructions one by one
abbrev pub with_each : ℕ → ℕ → List Instr → Draft → Outcome Draft
with_each line rank [] d = Ok d
with_each line rank (i ∷ is) d = with_made line rank i d >>= with_each line rank is

-- one more turn of a loop, unless the ranks have had as many as they may have
abbrev pub with_turn : ℕ → Draft → Outcome Draft
with_turn line d = if nat_lt d.turns MOST_TURNS then Ok (record d { turns = d.turns + 1 }) else Err (TooMany line)

-- outcomes at the end of a tape
abbrev pub with_outcomes : Bool → ℕ → List Bool → Programs → Programs
with_outcomes own rank ms p =
    let r = rank_of p rank in
    with_rank p rank (if own then record r { own = r.own ++ ms } else record r { protocol = r.protocol ++ ms })
