-- No own outcome changes which ranks step in an ideal run, how far each comes, or what is on a lane but for its bits
use Rattle.std.specs.Prelude.{◌≡◌, ℕ, Bool, List, length}
use Rattle.qm_instr.specs.declared.Lane.{Lane}
use Rattle.qm_instr.specs.Programs.{Programs, rank_of}
use Rattle.qm_proto.specs.Model.Ideal.{IdealTables, ideal_replay, IsOneRun}
use Rattle.qm_confluence.specs.Tapes.{with_tapes}

-- each rank stands at the same instruction, and each lane holds as many loads
pub record ComesAsFar (t u : IdealTables) : Type 0 where
  pub at : (r : ℕ) → (t.parts r).at ≡ (u.parts r).at
  pub lanes : (a : Lane) → length (t.lanes a) ≡ length (u.lanes a)

-- the run that steps the lowest enabled rank is that of the same programs with other own tapes, and comes as far
pub record RunsAlike (p : Programs) (own other : ℕ → List Bool) (ranks : List ℕ) : Type 0 where
  pub run : IsOneRun (with_tapes p other) ranks
  pub far : ComesAsFar (ideal_replay (with_tapes p own) ranks).tables (ideal_replay (with_tapes p other) ranks).tables

-- programs are what they are with their own tapes, and other tapes change no step
pub record IsOutcomesLaw (p : Programs) : Type 0 where
  pub own : with_tapes p (λ r. (rank_of p r).own) ≡ p
  pub alike : (own other : ℕ → List Bool) (ranks : List ℕ) → IsOneRun (with_tapes p own) ranks → RunsAlike p own other ranks

-- so it is for all programs
abbrev pub OutcomesLaw : Type 0
OutcomesLaw = (p : Programs) → IsOutcomesLaw p
