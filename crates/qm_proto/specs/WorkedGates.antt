-- Gates, bits and own tapes that were worked out by hand, of the machine and of the ideal machine
use Rattle.std.specs.Prelude.{◌≡◌, ℕ, ◌+◌, Bool, true, false, if◌then◌else◌, List, [], ◌∷◌, ◌++◌, length, replicate}
use Rattle.qm_denot.specs.declared.Wire.{Wire}
use Rattle.qm_denot.specs.declared.Letter.TheVariants.{Phase, Flip, Had, Cx, Cz, Keep}
use Rattle.qm_denot.specs.Circuits.{Circuit}
use Rattle.qm_instr.specs.Programs.{Programs}
use Rattle.qm_proto.specs.WorkedMessages.{q}
use Rattle.qm_proto.specs.WorkedPrograms.{gate_programs, set_programs, tape_programs}
use Rattle.qm_proto.specs.WorkedRun.{Leaves, IsOne}
use Rattle.qm_proto.specs.Model.Ideal.{ideal_replay}
use Rattle.qm_proto.specs.Model.Schedules.{replay}

-- the second qubit that rank 0 makes
abbrev pub v : Wire
v = record q { made = 1 }

-- the letters of `x`, `z`, `h`, `s`, `sdg`, `t`, `tdg`, `cx` and `cz`
abbrev pub each_letter : Circuit
each_letter = Flip q ∷ Phase 4 q ∷ Had q ∷ Phase 2 q ∷ Phase 6 q ∷ Phase 1 q ∷ Phase 7 q ∷ Cx q v ∷ Cz q v ∷ []

-- so many turns of rank 0
abbrev pub turns_of_0 : ℕ → List ℕ
turns_of_0 n = replicate n 0

-- each gate does its letter, under `when` only where the bit is one
pub record WorkedGates : Type 0 where
  pub letters : (b : Bool) → Leaves (gate_programs b) (turns_of_0 21) (each_letter ++ (if b then each_letter else []))
  pub ideal_letters : (b : Bool) → IsOne (gate_programs b) (turns_of_0 21) (each_letter ++ (if b then each_letter else []))

-- the numbers, from k on, of the bits that are one
abbrev ones_from : ℕ → List Bool → List ℕ
ones_from k [] = []
ones_from k (true ∷ bs) = k ∷ ones_from (k + 1) bs
ones_from k (false ∷ bs) = ones_from (k + 1) bs

-- rank r's bits that are one, after a schedule and after an ideal run
abbrev pub ones : Programs → List ℕ → ℕ → List ℕ
ones p schedule r = ones_from 0 ((replay p schedule).tables.parts r).bits

abbrev pub ideal_ones : Programs → List ℕ → ℕ → List ℕ
ideal_ones p ranks r = ones_from 0 ((ideal_replay p ranks).tables.parts r).bits

-- the schedule of the bits that are set, of which the one in the middle is sent
abbrev pub set_schedule : List ℕ
set_schedule = turns_of_0 6 ++ 1 ∷ []

-- what bits are at the start, and what `set`, `sendbit` and `measure` make of them
pub record WorkedBits : Type 0 where
  pub many : (p : Programs) (r : ℕ) → length ((replay p []).tables.parts r).bits ≡ 32
  pub at_start : (p : Programs) (r : ℕ) → ones p [] r ≡ []
  pub ideal_many : (p : Programs) (r : ℕ) → length ((ideal_replay p []).tables.parts r).bits ≡ 32
  pub ideal_at_start : (p : Programs) (r : ℕ) → ideal_ones p [] r ≡ []
  -- a bit is made one and zero, its neighbours stay, and it is the one that is sent
  pub set : ones (set_programs true) set_schedule 0 ≡ 6 ∷ []
  pub unset : ones (set_programs false) set_schedule 0 ≡ 0 ∷ 5 ∷ 7 ∷ []
  pub sent : ones (set_programs true) set_schedule 1 ≡ 9 ∷ []
  pub unsent : ones (set_programs false) set_schedule 1 ≡ []
  pub ideal_set : ideal_ones (set_programs true) set_schedule 0 ≡ 6 ∷ []
  pub ideal_unset : ideal_ones (set_programs false) set_schedule 0 ≡ 0 ∷ 5 ∷ 7 ∷ []
  pub ideal_sent : ideal_ones (set_programs true) set_schedule 1 ≡ 9 ∷ []
  pub ideal_unsent : ideal_ones (set_programs false) set_schedule 1 ≡ []
  -- the own tape is used from its front, and each outcome goes into the bit that the `measure` names
  pub measured : Leaves tape_programs (turns_of_0 6) (Had v ∷ Keep v true ∷ Had v ∷ Keep v false ∷ [])
  pub outcomes : ones tape_programs (turns_of_0 6) 0 ≡ 3 ∷ []
  pub ideal_measured : IsOne tape_programs (turns_of_0 6) (Had v ∷ Keep v true ∷ Had v ∷ Keep v false ∷ [])
  pub ideal_outcomes : ideal_ones tape_programs (turns_of_0 6) 0 ≡ 3 ∷ []
