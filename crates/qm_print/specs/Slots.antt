-- The full slots of ranks, and how they are written
use Rattle.std.specs.Prelude.{ℕ, zero, suc, ◌∷◌, [], ◌++◌, List, Option, Some, None, length, codes, decimal, All, Contains, map, ◌≤◌}
use Rattle.std.specs.List.{flat_map}
use Rattle.qm_limits.specs.declared.TheConstants.{MOST_CAPACITY}
use Rattle.qm_denot.specs.declared.Wire.{Wire}
use Rattle.qm_denot.specs.WireLists.{Distinct}
use Rattle.qm_instr.specs.Programs.{Programs, rank_of}
use Rattle.qm_print.specs.declared.Live.{Live}

-- ---- which slots are full
-- a slot with its wire, where it is full
abbrev pub slot_if : ℕ → ℕ → Option Wire → List Live
slot_if r q None = []
slot_if r q (Some w) = record { rank = r; slot = q; wire = w } ∷ []

-- the full ones of the first n slots of a rank, in their order
abbrev pub rank_slots : ℕ → ℕ → (ℕ → Option Wire) → List Live
rank_slots r zero slots = []
rank_slots r (suc n) slots = rank_slots r n slots ++ slot_if r n (slots n)

-- those of the first n ranks, by rank, then slot
abbrev pub slots_below : Programs → ℕ → (ℕ → ℕ → Option Wire) → List Live
slots_below p zero slots = []
slots_below p (suc r) slots = slots_below p r slots ++ rank_slots r (rank_of p r).qubits (slots r)

-- those of all ranks
abbrev pub full_slots : Programs → (ℕ → ℕ → Option Wire) → List Live
full_slots p slots = slots_below p (length p.ranks) slots

-- ---- their texts
-- ` RANK.SLOT`
abbrev pub slot_text : Live → List ℕ
slot_text s = codes " " ++ decimal s.rank ++ codes "." ++ decimal s.slot

-- that of each full slot
abbrev pub slots_text : List Live → List ℕ
slots_text ss = flat_map slot_text ss

-- `RANK.MADE`: which half of a pair a wire is, isn't written
abbrev pub wire_text : Wire → List ℕ
wire_text w = decimal w.rank ++ codes "." ++ decimal w.made

-- the line of a full slot with its wire
abbrev pub slot_line : Live → List ℕ
slot_line s = codes "slot " ++ decimal s.rank ++ codes " " ++ decimal s.slot ++ codes " " ++ wire_text s.wire ++ codes "\n"

-- a line for each full slot
abbrev pub slot_lines : List Live → List ℕ
slot_lines ss = flat_map slot_line ss

-- ---- what may be written
-- the slots hold different live wires, and there are few of them
pub record AreLive (live : List Wire) (slots : List Live) : Type 0 where
  pub live_all : All (Contains live) (map (λ s. s.wire) slots)
  pub distinct : Distinct (map (λ s. s.wire) slots)
  pub few : length slots ≤ MOST_CAPACITY
