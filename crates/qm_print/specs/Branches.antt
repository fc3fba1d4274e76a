-- A branch in the making: its bits, the wires that are one in it, and the slots over which it goes on
use Rattle.std.specs.Prelude.{ℕ, ◌+◌, ◌-◌, ◌≤◌, List, [], ◌++◌, length, take, map, All, Contains}
use Rattle.qm_limits.specs.declared.TheConstants.{MOST_CAPACITY}
use Rattle.qm_denot.specs.declared.Wire.{Wire}
use Rattle.qm_denot.specs.WireLists.{Distinct}
use Rattle.qm_print.specs.declared.Live.{Live}

-- its bits as digits, and the wires that are one
pub record BranchView : Type 0 where
  pub bits : List ℕ
  pub ones : List Wire

-- the branch over no slots
abbrev pub no_branch : BranchView
no_branch = record { bits = []; ones = [] }

-- the list without its last element
abbrev pub without_last : {T : Type 0} → List T → List T
without_last ts = take (length ts - 1) ts

-- a branch may go on over the slots: its wires that are one and those of the slots are different and live, and there is room
pub record GoesOn (live : List Wire) (branch : BranchView) (slots : List Live) : Type 0 where
  pub live_all : All (Contains live) (branch.ones ++ map (λ s. s.wire) slots)
  pub distinct : Distinct (branch.ones ++ map (λ s. s.wire) slots)
  pub bits_few : length branch.bits + length slots ≤ MOST_CAPACITY
  pub ones_few : length branch.ones + length slots ≤ MOST_CAPACITY
