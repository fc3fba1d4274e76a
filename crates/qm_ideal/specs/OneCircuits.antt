-- The one circuit of programs, and why there is none
use Rattle.std.specs.Prelude.{◌≡◌, ℕ, ◌+◌, ◌*◌, ◌<◌, zero, suc, Bool, slice_index_or, None, List, [], ◌++◌, Option, option_to_list, length, if◌then◌else◌}
use Rattle.qm_denot.specs.declared.Wire.{Wire}
use Rattle.qm_denot.specs.Circuits.{Circuit}
use Rattle.qm_limits.specs.declared.TheConstants.{SLOTS, MOST_INSTRUCTIONS}
use Rattle.qm_instr.specs.Programs.{Programs}
use Rattle.qm_proto.specs.Model.Ideal as model
use Rattle.qm_proto.specs.Model.Ideal.{IdealTables, ideal_replay, IsOneRun, AllDone, has_instr}
use Rattle.qm_ideal.specs.declared.MonoError.{MonoError}
use Rattle.qm_ideal.specs.declared.MonoError.TheVariants as error

-- more letters than the one circuit of programs in their ranges can have: two for each instruction, if each of 16 ranks had all of them
abbrev pub most_letters : ℕ
most_letters = 32 * MOST_INSTRUCTIONS

-- the wires in the first n slots of a rank
abbrev pub wires_below : (ℕ → Option Wire) → ℕ → List Wire
wires_below f zero = []
wires_below f (suc n) = wires_below f n ++ option_to_list (f n)

-- the wires in the slots of the first n ranks, by rank, then by slot; no rank has more slots than it may have
abbrev pub wires_in : (ℕ → ℕ → Option Wire) → ℕ → List Wire
wires_in f zero = []
wires_in f (suc n) = wires_in f n ++ wires_below (f n) SLOTS

-- a rank at the end: its bits and its slots
pub record RankEnd : Type 0 where
  pub bits : List Bool
  pub slots : List (Option Wire)

-- a circuit with the ranks at its end, and its width
pub record OneView : Type 0 where
  pub letters : Circuit
  pub ranks : List RankEnd
  pub width : ℕ

-- what stands for a rank that there isn't
abbrev pub no_rank : RankEnd
no_rank = record { bits = []; slots = [] }

-- the bits of rank r at the end, and the wire in its slot q
abbrev pub bits_of : OneView → ℕ → List Bool
bits_of m r = (slice_index_or m.ranks r no_rank).bits

abbrev pub slot_of : OneView → ℕ → ℕ → Option Wire
slot_of m r q = slice_index_or (slice_index_or m.ranks r no_rank).slots q None

-- the run of the lowest enabled ranks does not end early, and has this circuit, these bits and these slots
pub record IsOneCircuit (p : Programs) (m : OneView) : Type 0 where
  pub ranks : List ℕ
  pub run : IsOneRun p ranks
  pub done : AllDone p (ideal_replay p ranks).tables
  pub letters : m.letters ≡ (ideal_replay p ranks).circuit
  pub count : length m.ranks ≡ length p.ranks
  pub bits : (r : ℕ) → r < length p.ranks → bits_of m r ≡ ((ideal_replay p ranks).tables.parts r).bits
  pub slots : (r q : ℕ) → slot_of m r q ≡ (ideal_replay p ranks).tables.slots r q
  pub wide : m.width ≡ model.width m.letters (wires_in (slot_of m) (length m.ranks))

-- it does not end early
abbrev pub HasOneCircuit : Programs → Type 0
HasOneCircuit p = (m : OneView) × IsOneCircuit p m

-- the sum of 2^k over those of the n ranks r, r+1, .. that have instructions left, where the first of them is number 0
abbrev pub left_from : Programs → IdealTables → ℕ → ℕ → ℕ
left_from p t r zero = 0
left_from p t r (suc n) = (if has_instr p t r then 1 else 0) + 2 * left_from p t (r + 1) n

-- the run ends early, with instructions left at these ranks
pub record EndsEarly (p : Programs) (left : ℕ) : Type 0 where
  pub ranks : List ℕ
  pub run : IsOneRun p ranks
  pub early : ¬ AllDone p (ideal_replay p ranks).tables
  pub left_so : left ≡ left_from p (ideal_replay p ranks).tables 0 (length p.ranks)

-- why programs have no one circuit
abbrev pub Explains : Programs → MonoError → Type 0
Explains p (error.Waits left) = EndsEarly p left
Explains p error.Memory = Unit {0}
