-- Small programs of which the runs are worked out by hand
use Rattle.std.specs.Prelude.{ℕ, Bool, true, false, not, List, [], ◌∷◌, ◌++◌, map}
use Rattle.qm_instr.specs.declared.OneGate.TheVariants as one
use Rattle.qm_instr.specs.declared.Gate.{Gate}
use Rattle.qm_instr.specs.declared.Gate.TheVariants as gate
use Rattle.qm_instr.specs.declared.Instr.{Instr}
use Rattle.qm_instr.specs.declared.Instr.TheVariants as instr
use Rattle.qm_instr.specs.Programs.{Programs, RankProgram}

-- a rank with these sizes, instructions and tapes
abbrev rank : ℕ → ℕ → List Instr → List Bool → List Bool → RankProgram
rank qubits buffer is own protocol = record { qubits = qubits; buffer = buffer; instructions = is; own = own; protocol = protocol }

-- the programs of two ranks
abbrev both : RankProgram → RankProgram → Programs
both x y = record { version = 1; ranks = x ∷ y ∷ [] }

-- the programs of one rank
abbrev alone : RankProgram → Programs
alone x = record { version = 1; ranks = x ∷ [] }

-- the gate `x` on slot 0
abbrev exchange : Instr
exchange = instr.Do (gate.One one.X 0)

-- rank 0 makes a qubit, turns it by `h`, and copies it to rank 1 with the outcome m
abbrev pub copy_programs : Bool → Programs
copy_programs m =
    both
    (rank 1 1 (instr.Alloc 0 ∷ instr.Do (gate.One one.H 0) ∷ instr.CopyTo 0 1 7 ∷ []) [] (m ∷ []))
    (rank 1 1 (instr.CopyFrom 0 0 7 ∷ []) [] [])

-- a qubit is copied with the outcome m, and the copy taken back with the outcome n
abbrev pub uncopy_programs : Bool → Bool → Programs
uncopy_programs m n =
    both
    (rank 1 1 (instr.Alloc 0 ∷ instr.CopyTo 0 1 7 ∷ instr.UndoFrom 0 1 8 ∷ []) [] (m ∷ []))
    (rank 1 1 (instr.CopyFrom 0 0 7 ∷ instr.UndoTo 0 0 8 ∷ []) [] (n ∷ []))

-- a qubit is moved, with the outcome m on the near half and n on the qubit
abbrev pub move_programs : Bool → Bool → Programs
move_programs m n =
    both (rank 1 1 (instr.Alloc 0 ∷ instr.MoveTo 0 1 7 ∷ []) [] (m ∷ n ∷ [])) (rank 1 1 (instr.MoveFrom 0 0 7 ∷ []) [] [])

-- a qubit of rank 0 controls a qubit of rank 1, with the outcome m on the near half and n on the far half; then it is copied to rank 1
abbrev pub reach_programs : Bool → Bool → Programs
reach_programs m n =
    both
    (rank 1 1 (instr.Alloc 0 ∷ instr.ReachTo 0 1 9 ∷ instr.CopyTo 0 1 7 ∷ []) [] (m ∷ false ∷ []))
    (rank 2 1 (instr.Alloc 0 ∷ instr.ReachFrom 0 0 9 ∷ instr.CopyFrom 1 0 7 ∷ []) [] (n ∷ []))

-- rank 0 measures a qubit with the outcome m, makes it zero, gives it up, and sends the outcome to rank 1, where a gate depends on it
abbrev pub bit_programs : Bool → Programs
bit_programs m =
    both
    (rank 1 1 (instr.Alloc 0 ∷ instr.Measure 0 0 ∷ instr.When 0 (gate.One one.X 0) ∷ instr.Free 0 ∷ instr.SendBit 0 1 2 ∷ []) (m ∷ []) [])
    (rank 1 1 (instr.RecvBit 5 0 2 ∷ instr.Alloc 0 ∷ instr.When 5 (gate.One one.X 0) ∷ instr.Set 1 true ∷ instr.Xor 1 5 ∷ []) [] [])

-- a gate of each kind, on slot 0 or from slot 0 to slot 1
abbrev each_gate : List Gate
each_gate =
    gate.One one.X 0 ∷ gate.One one.Z 0 ∷ gate.One one.H 0 ∷ gate.One one.S 0 ∷ gate.One one.Sdg 0 ∷ gate.One one.T 0 ∷ gate.One one.Tdg 0
    ∷ gate.Cx 0 1 ∷ gate.Cz 0 1 ∷ []

-- a rank does a gate of each kind, and then each once more where its bit 3, which is b, is one
abbrev pub gate_programs : Bool → Programs
gate_programs b =
    alone (rank 2 1 (instr.Alloc 0 ∷ instr.Alloc 1 ∷ instr.Set 3 b ∷ (map instr.Do each_gate ++ map (instr.When 3) each_gate)) [] [])

-- rank 0 makes bit 6 first the opposite of b and then b, between bits that are the opposite, and sends it to rank 1
abbrev pub set_programs : Bool → Programs
set_programs b =
    both
    (rank 1 1
    (instr.Set 0 (not b) ∷ instr.Set 5 (not b) ∷ instr.Set 6 (not b) ∷ instr.Set 6 b ∷ instr.Set 7 (not b) ∷ instr.SendBit 6 1 2 ∷ [])
    [] [])
    (rank 1 1 (instr.RecvBit 9 0 2 ∷ []) [] [])

-- a rank turns the qubit in slot 1 by `h` and measures it, twice, into bits 3 and 4, with the outcomes one and zero
abbrev pub tape_programs : Programs
tape_programs =
    let turn = instr.Do (gate.One one.H 1) in
    alone (rank 2 1 (instr.Alloc 0 ∷ instr.Alloc 1 ∷ turn ∷ instr.Measure 1 3 ∷ turn ∷ instr.Measure 1 4 ∷ []) (true ∷ false ∷ []) [])

-- three ranks of which each makes a qubit
abbrev pub three_programs : Programs
three_programs = let one = rank 1 1 (instr.Alloc 0 ∷ []) [] [] in record { version = 1; ranks = one ∷ one ∷ one ∷ [] }

-- each rank copies a qubit to the other before it receives, with the outcomes m and n; the ranks have buffers of these sizes
abbrev pub crossed_by : Bool → Bool → ℕ → ℕ → Programs
crossed_by m n b c =
    both
    (rank 2 b (instr.Alloc 0 ∷ instr.CopyTo 0 1 1 ∷ instr.CopyFrom 1 1 1 ∷ []) [] (m ∷ []))
    (rank 2 c (instr.Alloc 0 ∷ instr.CopyTo 0 0 1 ∷ instr.CopyFrom 1 0 1 ∷ []) [] (n ∷ []))

abbrev pub crossed_programs : ℕ → ℕ → Programs
crossed_programs = crossed_by false true

-- rank 0 copies a qubit twice to rank 1, which has a buffer of this size and another thing to do first
abbrev pub two_copies_programs : ℕ → Programs
two_copies_programs b =
    both
    (rank 1 1 (instr.Alloc 0 ∷ instr.CopyTo 0 1 1 ∷ instr.CopyTo 0 1 1 ∷ []) [] (false ∷ false ∷ []))
    (rank 3 b (instr.Alloc 0 ∷ instr.CopyFrom 1 0 1 ∷ instr.CopyFrom 2 0 1 ∷ []) [] [])

-- two qubits are copied, and both copies are taken back on one lane
abbrev pub two_undos_programs : Programs
two_undos_programs =
    both
    (rank 2 1
    (instr.Alloc 0 ∷ instr.Alloc 1 ∷ instr.CopyTo 0 1 3 ∷ instr.CopyTo 1 1 3 ∷ instr.UndoFrom 0 1 4 ∷ instr.UndoFrom 1 1 4 ∷ [])
    [] (false ∷ false ∷ []))
    (rank 2 1 (instr.CopyFrom 0 0 3 ∷ instr.CopyFrom 1 0 3 ∷ instr.UndoTo 0 0 4 ∷ instr.UndoTo 1 0 4 ∷ []) [] (false ∷ false ∷ []))

-- a copy is taken back by a rank that does a gate first
abbrev pub late_source_programs : Programs
late_source_programs =
    both
    (rank 1 1 (instr.Alloc 0 ∷ instr.CopyTo 0 1 7 ∷ exchange ∷ instr.UndoFrom 0 1 8 ∷ []) [] (false ∷ []))
    (rank 1 1 (instr.CopyFrom 0 0 7 ∷ exchange ∷ instr.UndoTo 0 0 8 ∷ []) [] (false ∷ []))

-- a qubit of rank 0 controls a qubit of rank 1 twice, on one lane
abbrev pub two_reaches_programs : Programs
two_reaches_programs =
    both
    (rank 1 1 (instr.Alloc 0 ∷ instr.ReachTo 0 1 9 ∷ instr.ReachTo 0 1 9 ∷ []) [] (false ∷ false ∷ []))
    (rank 1 1 (instr.Alloc 0 ∷ instr.ReachFrom 0 0 9 ∷ instr.ReachFrom 0 0 9 ∷ []) [] (false ∷ false ∷ []))

-- each rank first receives what the other sends afterwards
abbrev pub waiting_programs : Programs
waiting_programs =
    both
    (rank 1 1 (instr.CopyFrom 0 1 1 ∷ instr.CopyTo 0 1 1 ∷ []) [] (false ∷ []))
    (rank 1 1 (instr.CopyFrom 0 0 1 ∷ instr.CopyTo 0 0 1 ∷ []) [] (false ∷ []))

-- rank 0 has nothing to do, and ranks 1 and 2 first receive what the other sends afterwards
abbrev pub behind_programs : Programs
behind_programs =
    record {
      version = 1;
      ranks =
          rank 1 1 [] [] []
          ∷ rank 1 1 (instr.RecvBit 0 2 1 ∷ instr.SendBit 0 2 1 ∷ []) [] []
          ∷ rank 1 1 (instr.RecvBit 0 1 1 ∷ instr.SendBit 0 1 1 ∷ []) [] []
          ∷ [];
    }

-- a qubit that is v is measured with the outcome m
abbrev pub measured_programs : Bool → Bool → Programs
measured_programs v m =
    alone (rank 1 1 (instr.Alloc 0 ∷ instr.Set 1 v ∷ instr.When 1 (gate.One one.X 0) ∷ instr.Measure 0 0 ∷ []) (m ∷ []) [])

-- a qubit that is one is given up
abbrev pub not_zero_programs : Programs
not_zero_programs = alone (rank 1 1 (instr.Alloc 0 ∷ exchange ∷ instr.Free 0 ∷ []) [] [])

-- a copy is changed before it is taken back
abbrev pub not_equal_programs : Programs
not_equal_programs =
    both
    (rank 1 1 (instr.Alloc 0 ∷ instr.CopyTo 0 1 1 ∷ instr.UndoFrom 0 1 2 ∷ []) [] (false ∷ []))
    (rank 1 1 (instr.CopyFrom 0 0 1 ∷ exchange ∷ instr.UndoTo 0 0 2 ∷ []) [] (false ∷ []))
