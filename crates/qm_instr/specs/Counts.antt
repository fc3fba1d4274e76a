-- How many events an instruction has, and how many outcomes it takes from each tape
use Rattle.std.specs.Prelude.{ℕ}
use Rattle.qm_instr.specs.declared.Instr.{Instr}
use Rattle.qm_instr.specs.declared.Instr.TheVariants as instr

-- one line of the table
pub record Counts : Type 0 where
  pub events : ℕ
  pub protocol : ℕ
  pub own : ℕ

-- a line with so many events, outcomes of the protocol tape, and outcomes of the own tape
abbrev pub counts : ℕ → ℕ → ℕ → Counts
counts events protocol own = record { events = events; protocol = protocol; own = own }

-- the table: events, outcomes of the protocol tape, outcomes of the own tape
abbrev pub counts_of : Instr → Counts
counts_of (instr.Alloc q) = counts 1 0 0
counts_of (instr.Free q) = counts 1 0 0
counts_of (instr.Do g) = counts 1 0 0
counts_of (instr.Measure q b) = counts 1 0 1
counts_of (instr.Set b v) = counts 1 0 0
counts_of (instr.Xor b c) = counts 1 0 0
counts_of (instr.When b g) = counts 1 0 0
counts_of (instr.SendBit b to tag) = counts 1 0 0
counts_of (instr.RecvBit b from tag) = counts 1 0 0
counts_of (instr.CopyTo q to tag) = counts 3 1 0
counts_of (instr.CopyFrom q from tag) = counts 2 0 0
counts_of (instr.UndoFrom q from tag) = counts 2 0 0
counts_of (instr.UndoTo q to tag) = counts 2 1 0
counts_of (instr.MoveTo q to tag) = counts 5 2 0
counts_of (instr.MoveFrom q from tag) = counts 3 0 0
counts_of (instr.ReachTo q to tag) = counts 5 1 0
counts_of (instr.ReachFrom t from tag) = counts 5 1 0

-- how many events it has
abbrev pub events_of : Instr → ℕ
events_of i = (counts_of i).events

-- how many outcomes it takes from the protocol tape
abbrev pub protocol_of : Instr → ℕ
protocol_of i = (counts_of i).protocol

-- how many outcomes it takes from the own tape
abbrev pub own_of : Instr → ℕ
own_of i = (counts_of i).own
