-- The table of the collectives: which instructions each rank does
use Rattle.std.specs.Prelude.{ℕ, zero, suc, ◌+◌, nat_eq, List, [], ◌∷◌, ◌++◌, map, if◌then◌else◌}
use Rattle.qm_instr.specs.declared.Gate.TheVariants as gate
use Rattle.qm_instr.specs.declared.Instr.{Instr}
use Rattle.qm_instr.specs.declared.Instr.TheVariants as instr
use Rattle.qm_collect.specs.declared.Collective.{Collective}
use Rattle.qm_collect.specs.declared.Collective.TheVariants.{Bcast, Unbcast, Scatter, Gather, Unscatter, Ungather, Reduce, Unreduce}

-- a line of the table: the root's own gates, its message to or from each other rank, and the one instruction of each other rank
pub record Line : Type 0 where
  pub own : List Instr
  pub message : ℕ → Instr
  pub elsewhere : Instr

-- the line with these gates and messages of the root, and this instruction elsewhere
abbrev pub line : List Instr → (ℕ → Instr) → Instr → Line
line own message elsewhere = record { own = own; message = message; elsewhere = elsewhere }

-- the root keeps the qubit in slot q + root, and deals out the others
abbrev pub scatter_line : ℕ → ℕ → ℕ → Line
scatter_line q root tag = line [] (λ d. instr.MoveTo (q + d) d tag) (instr.MoveFrom q root tag)

-- the root collects the others' qubits, that of rank d into slot q + d
abbrev pub gather_line : ℕ → ℕ → ℕ → Line
gather_line q root tag = line [] (λ d. instr.MoveFrom (q + d) d tag) (instr.MoveTo q root tag)

-- the root's target takes a controlled-not from the root's own qubit and from each other rank's
abbrev pub reduce_line : ℕ → ℕ → ℕ → ℕ → Line
reduce_line q t root tag = line (instr.Do (gate.Cx q t) ∷ []) (λ d. instr.ReachFrom t d tag) (instr.ReachTo q root tag)

-- the table
abbrev pub line_of : Collective → Line
line_of (Bcast q root tag) = line [] (λ d. instr.CopyTo q d tag) (instr.CopyFrom q root tag)
line_of (Unbcast q root tag) = line [] (λ d. instr.UndoFrom q d tag) (instr.UndoTo q root tag)
line_of (Scatter q root tag) = scatter_line q root tag
line_of (Gather q root tag) = gather_line q root tag
line_of (Unscatter q root tag) = gather_line q root tag
line_of (Ungather q root tag) = scatter_line q root tag
line_of (Reduce q t root tag) = reduce_line q t root tag
line_of (Unreduce q t root tag) = reduce_line q t root tag

-- the root of a collective
abbrev pub root_of : Collective → ℕ
root_of (Bcast q root tag) = root
root_of (Unbcast q root tag) = root
root_of (Scatter q root tag) = root
root_of (Gather q root tag) = root
root_of (Unscatter q root tag) = root
root_of (Ungather q root tag) = root
root_of (Reduce q t root tag) = root
root_of (Unreduce q t root tag) = root

-- the slots that a collective names
abbrev pub slots_of : Collective → List ℕ
slots_of (Bcast q root tag) = q ∷ []
slots_of (Unbcast q root tag) = q ∷ []
slots_of (Scatter q root tag) = q ∷ []
slots_of (Gather q root tag) = q ∷ []
slots_of (Unscatter q root tag) = q ∷ []
slots_of (Ungather q root tag) = q ∷ []
slots_of (Reduce q t root tag) = q ∷ t ∷ []
slots_of (Unreduce q t root tag) = q ∷ t ∷ []

-- each of so many ranks but the root, in rising order
abbrev pub others : ℕ → ℕ → List ℕ
others root zero = []
others root (suc n) = if nat_eq n root then others root n else others root n ++ n ∷ []

-- the instructions of a rank in a collective of so many ranks
abbrev pub instructions_at : Collective → ℕ → ℕ → List Instr
instructions_at which rank ranks =
    if nat_eq rank (root_of which)
    then (line_of which).own ++ map (line_of which).message (others (root_of which) ranks)
    else (line_of which).elsewhere ∷ []
