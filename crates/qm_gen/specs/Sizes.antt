-- The kinds of made programs, and their sizes
use Rattle.std.specs.Prelude.{ℕ, ◌≤◌}
use Rattle.qm_gen.specs.declared.GenKind.{GenKind}
use Rattle.qm_gen.specs.declared.GenKind.TheVariants.{Ring, Ghz, Parity}
use Rattle.qm_gen.specs.declared.TheConstants.{LEAST_RING, MOST_RING, LEAST_GHZ, MOST_GHZ, LEAST_PARITY, MOST_PARITY}

-- a size from the least up to the most
pub record IsBetween (least most size : ℕ) : Type 0 where
  pub enough : least ≤ size
  pub few : size ≤ most

-- the sizes of a kind
abbrev pub IsSize : GenKind → ℕ → Type 0
IsSize Ring size = IsBetween LEAST_RING MOST_RING size
IsSize Ghz size = IsBetween LEAST_GHZ MOST_GHZ size
IsSize Parity size = IsBetween LEAST_PARITY MOST_PARITY size

-- how many ranks a made program has
abbrev pub ranks_of : GenKind → ℕ → ℕ
ranks_of Ring size = 4
ranks_of Ghz size = size
ranks_of Parity size = 4
