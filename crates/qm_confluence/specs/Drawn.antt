-- Outcomes that are drawn along the run of the lowest enabled ranks, and the programs whose tapes begin with them
use Rattle.std.specs.Prelude.{◌≡◌, ℕ, ◌+◌, ◌<◌, nat_eq, Bool, true, false, if◌then◌else◌, List, [], ◌∷◌, Option, Some, length, map, take, slice_index_or}
use Rattle.qm_denot.specs.declared.Wire.{Wire}
use Rattle.qm_denot.specs.declared.Letter.TheVariants.{Keep}
use Rattle.qm_denot.specs.Circuits.{Circuit}
use Rattle.qm_instr.specs.declared.Instr.{Instr}
use Rattle.qm_instr.specs.declared.Instr.TheVariants as instr
use Rattle.qm_instr.specs.Programs.{Programs, rank_of}
use Rattle.qm_proto.specs.Model.Ideal.{IdealState, ideal_current, ideal_next, ideal_at_start, IsLowestIdeal}

-- an outcome that was given: for the rank that measures, of its wire, after so many letters
pub record Outcome : Type 0 where
  pub rank : ℕ
  pub wire : Wire
  pub at : ℕ
  pub value : Bool

-- the outcomes given for a rank, in their order
abbrev pub outcomes_for : ℕ → List Outcome → List Bool
outcomes_for r [] = []
outcomes_for r (x ∷ xs) = if nat_eq x.rank r then x.value ∷ outcomes_for r xs else outcomes_for r xs

-- ---- the measurements of a run
-- the wire and the value of each Keep of a circuit, with the number of letters before it
pub record Place : Type 0 where
  pub at : ℕ
  pub wire : Wire
  pub value : Bool

abbrev pub keeps_from : ℕ → Circuit → List Place
keeps_from n [] = []
keeps_from n (Keep w m ∷ ls) = record { at = n; wire = w; value = m } ∷ keeps_from (n + 1) ls
keeps_from n (_ ∷ ls) = keeps_from (n + 1) ls

abbrev pub place_of : Outcome → Place
place_of x = record { at = x.at; wire = x.wire; value = x.value }

-- whether an instruction, where there is one, measures
abbrev pub measures : Option Instr → Bool
measures (Some (instr.Measure q b)) = true
measures _ = false

-- the ranks that measure, in their order, of a run from here on
abbrev pub measuring_from : Programs → IdealState → List ℕ → List ℕ
measuring_from p s [] = []
measuring_from p s (r ∷ rs) =
    let later = measuring_from p (ideal_next p s r) rs in
    if measures (ideal_current p s.tables r) then r ∷ later else later

abbrev pub measuring : Programs → List ℕ → List ℕ
measuring p ranks = measuring_from p (ideal_at_start p) ranks

-- the outcomes are the run's Keeps: the n-th has the place, the wire and the value of the n-th Keep, and the rank that measures
pub record AreKeeps (p : Programs) (ranks : List ℕ) (c : Circuit) (xs : List Outcome) : Type 0 where
  pub places : map place_of xs ≡ keeps_from 0 c
  pub measured : map (λ (x : Outcome). x.rank) xs ≡ take (length xs) (measuring p ranks)

-- ---- runs that go on
-- each rank is the lowest that is enabled after those before it
abbrev pub IsLowestFrom : Programs → IdealState → List ℕ → Type 0
IsLowestFrom p s [] = Unit {0}
IsLowestFrom p s (r ∷ rs) = IsLowestIdeal p s.tables r × IsLowestFrom p (ideal_next p s r) rs

-- ---- programs that differ in their tapes alone
pub record AreTaped (p q : Programs) : Type 0 where
  pub count : length q.ranks ≡ length p.ranks
  pub same : (r : ℕ) → (rank_of q r).instructions ≡ (rank_of p r).instructions

-- the first outcomes of the second list are those of the first; one past its end is false
abbrev pub Follows : List Bool → List Bool → Type 0
Follows ys xs = (k : ℕ) → k < length ys → slice_index_or ys k false ≡ slice_index_or xs k false

-- the tapes begin with the outcomes given
abbrev pub AreFollowed : List Outcome → Programs → Type 0
AreFollowed outs q = (r : ℕ) → Follows (outcomes_for r outs) (rank_of q r).own
