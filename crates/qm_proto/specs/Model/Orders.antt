-- Orders of turns: which rank is stepped, and the schedules that go on in such an order from any state
use Rattle.std.specs.Prelude.{◌≡◌, ℕ, ◌+◌, ◌%◌, ◌<◌, ◌⊎◌, false, true, List, [], ◌∷◌, length}
use Rattle.std.proofs.Common.{suc}
use Rattle.qm_instr.specs.Programs.{Programs}
use Rattle.qm_proto.specs.declared.Cause.{Cause}
use Rattle.qm_proto.specs.declared.Cause.TheVariants as cause
use Rattle.qm_proto.specs.Model.State.{Tables, State}
use Rattle.qm_proto.specs.Model.Runs.{enabled, IsAllowed, IsRefused, next}
use Rattle.qm_proto.specs.Model.Schedules.{NoneEnabled, IsStuck, IsLowestLeft}

-- so many ranks on from `start`, in the cyclic order of the ranks
abbrev pub rank_on : Programs → ℕ → ℕ → ℕ
rank_on p start steps = (start + steps) % length p.ranks

-- r is the first rank that is enabled, in the cyclic order from `start` on
pub record IsFirstAround (p : Programs) (t : Tables) (start r : ℕ) : Type 0 where
  pub steps : ℕ
  pub few : steps < length p.ranks
  pub place : r ≡ rank_on p start steps
  pub able : enabled p t r ≡ true
  pub before : (k : ℕ) → k < steps → enabled p t (rank_on p start k) ≡ false

-- the run stops here where the first rank from `start` on has its turn: that rank is refused, or no rank may go on and this is the lowest
-- that has events left
pub data StopsAround (p : Programs) (s : State) (start rank : ℕ) : Cause → Type 0 where
  Refused : (c : Cause) → IsFirstAround p s.tables start rank → IsRefused p s rank c → StopsAround p s start rank c
  Stuck : IsStuck p s.tables → IsLowestLeft p s.tables rank → StopsAround p s start rank cause.Stuck

-- no rank is enabled, or the first one from `start` on is refused
abbrev pub IsEndAround : Programs → State → ℕ → Type 0
IsEndAround p s start =
    NoneEnabled p s.tables ⊎ ((r : ℕ) × (c : Cause) × IsFirstAround p s.tables start r × IsRefused p s r c)

-- numbers without end, by which the ranks are chosen, one for each turn
abbrev pub Words : Type 0
Words = ℕ → ℕ

-- the words after the first one
abbrev pub words_after : Words → Words
words_after w k = w (suc k)

-- the rank from which the first word looks on
abbrev pub start_of : Programs → Words → ℕ
start_of p w = w 0 % length p.ranks

-- the entries of the run that takes, at each turn, the first enabled rank from the turn's word on, from this state to its end
abbrev pub IsOrderFrom : Programs → State → Words → List ℕ → Type 0
IsOrderFrom p s w [] = IsEndAround p s (start_of p w)
IsOrderFrom p s w (r ∷ rs) = IsFirstAround p s.tables (start_of p w) r × IsAllowed p s r × IsOrderFrom p (next p s r) (words_after w) rs

-- the words of the order that takes the lowest enabled rank: it looks from rank 0 on at each turn
abbrev pub from_the_lowest : Words
from_the_lowest k = 0
