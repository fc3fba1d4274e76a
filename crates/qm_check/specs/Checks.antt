-- All sites where programs may have a fault, and the first fault of all
use Rattle.std.specs.Prelude.{◌≡◌, ℕ, ◌+◌, ◌<◌, ◌==◌, nat_lt, ◌⊎◌, Bool, if◌then◌else◌, List, sum_by, Option, Some, None}
use Rattle.qm_instr.specs.declared.Lane.{Lane}
use Rattle.qm_instr.specs.Programs.{Programs}
use Rattle.qm_limits.specs.declared.TheConstants.{MOST_CAPACITY, MOST_CAPACITY_1}
use Rattle.qm_check.specs.declared.Fault.{Fault}
use Rattle.qm_check.specs.declared.Fault.TheVariants as fault
use Rattle.qm_check.specs.declared.LaneCount.{LaneCount}
use Rattle.qm_check.specs.declared.Totals.{Totals}
use Rattle.qm_check.specs.Faults.{IsFirst, IsEarlierStep, IsEarlierTape}
use Rattle.qm_check.specs.Messages.{IsLower, lane_fault, IsLaneTable}
use Rattle.qm_check.specs.Slots.{step_fault}
use Rattle.qm_check.specs.Tapes.{tape_fault}
use Rattle.qm_check.specs.Totals.{totals_over}

-- the slots and the buffers of all ranks
abbrev pub capacity_of : Programs → ℕ
capacity_of p = sum_by (λ r. r.qubits + r.buffer) p.ranks

-- the largest capacity of a version
abbrev pub most_capacity : ℕ → ℕ
most_capacity version = if version == 1 then MOST_CAPACITY_1 else MOST_CAPACITY

-- the fault of too large a capacity
abbrev pub width_fault : ℕ → ℕ → Option Fault
width_fault version capacity =
    if nat_lt (most_capacity version) capacity then Some (fault.TooWide capacity) else None

-- where programs may have a fault
pub data Site : Type 0 where
  AllRanks : Site  -- all ranks together
  AtInstr : (r k : ℕ) → Site  -- instruction k of rank r
  OnLane : Lane → Site  -- a lane
  OnTape : (r : ℕ) (own : Bool) → Site  -- the own tape of rank r, or its protocol tape

-- the fault at a site
abbrev pub fault_at : Programs → Site → Option Fault
fault_at p AllRanks = width_fault p.version (capacity_of p)
fault_at p (AtInstr r k) = step_fault p r k
fault_at p (OnLane a) = lane_fault p a
fault_at p (OnTape r own) = tape_fault p r own

-- which of the four kinds of sites comes first
abbrev pub stage_of : Site → ℕ
stage_of AllRanks = 0
stage_of (AtInstr r k) = 1
stage_of (OnLane a) = 2
stage_of (OnTape r own) = 3

-- the order of two sites of one kind
abbrev pub IsBeforeAlike : Site → Site → Type 0
IsBeforeAlike (AtInstr r k) (AtInstr s j) = IsEarlierStep (r, k) (s, j)
IsBeforeAlike (OnLane a) (OnLane b) = IsLower a b
IsBeforeAlike (OnTape r own) (OnTape s other) = IsEarlierTape (r, own) (s, other)
IsBeforeAlike _ _ = ⊥

-- the order of the sites
abbrev pub IsBefore : Site → Site → Type 0
IsBefore a b = (stage_of a < stage_of b) ⊎ IsBeforeAlike a b

-- no site has a fault
abbrev pub IsReady : Programs → Type 0
IsReady p = (a : Site) → fault_at p a ≡ None

-- the fault is the first of all
abbrev pub IsFirstFault : Programs → Fault → Type 0
IsFirstFault p f = IsFirst IsBefore (fault_at p) (Some f)

-- programs that were checked, with their capacity, the sends of their lanes and their totals
pub record IsChecked (p : Programs) (capacity : ℕ) (lanes : List LaneCount) (totals : Totals) : Type 0 where
  pub ready : IsReady p
  pub capacity_so : capacity ≡ capacity_of p
  pub lanes_so : IsLaneTable p lanes
  pub totals_so : totals ≡ totals_over p.ranks
