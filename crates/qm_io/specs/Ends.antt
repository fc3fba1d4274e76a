-- What an end tells of itself, and what its calls do to that.
use Rattle.std.specs.Prelude.{◌≡◌, ℕ, ◌+◌, ◌-◌, ◌^◌, ◌<◌, ◌≤◌, ◌⊎◌, min, List, [], ◌++◌, Option, Some, None, Result, MatchResult}

-- a sink: the bytes that it took, where it tells them, and its count of faults
pub record SinkView : Type 0 where
  pub taken : Option (List ℕ)
  pub faults : ℕ

-- a source: the bytes that it has left, where it tells them, and its count of faults
pub record SourceView : Type 0 where
  pub left : Option (List ℕ)
  pub faults : ℕ

-- a count raised by one, up to 2^64-1
abbrev pub one_more : ℕ → ℕ
one_more count = min (count + 1) (2 ^ 64 - 1)

-- the count rose, or stands at 2^64-1
abbrev pub Rose : ℕ → ℕ → Type 0
Rose old new = (old < new) ⊎ (2 ^ 64 - 1 ≤ new)

-- told bytes with these behind them; untold bytes stay untold
abbrev pub followed_by : Option (List ℕ) → List ℕ → Option (List ℕ)
followed_by None bytes = None
followed_by (Some told) bytes = Some (told ++ bytes)

-- told bytes with these before them; untold bytes stay untold
abbrev pub led_by : List ℕ → Option (List ℕ) → Option (List ℕ)
led_by bytes None = None
led_by bytes (Some told) = Some (bytes ++ told)

-- the sink took exactly these bytes, without a fault
pub record Took (old new : SinkView) (bytes : List ℕ) : Type 0 where
  pub taken : new.taken ≡ followed_by old.taken bytes
  pub faults : new.faults ≡ old.faults

-- the sink took a front of these bytes, and then failed
pub record Broke (old new : SinkView) (bytes : List ℕ) : Type 0 where
  pub front : List ℕ
  pub back : List ℕ
  pub whole : bytes ≡ front ++ back
  pub taken : new.taken ≡ followed_by old.taken front
  pub grows : old.faults ≤ new.faults
  pub rose : Rose old.faults new.faults

-- on Ok the sink took all of these bytes, and on Err a front of them
abbrev pub Puts : {T E : Type 0} → SinkView → SinkView → List ℕ → Result T E → Type 0
Puts old new bytes r = MatchResult r (λ _. Took old new bytes) (λ _. Broke old new bytes)

-- the source gave exactly these bytes, without a fault
pub record Gave (old new : SourceView) (bytes : List ℕ) : Type 0 where
  pub left : old.left ≡ led_by bytes new.left
  pub faults : new.faults ≡ old.faults

-- the source failed, and gave nothing
pub record Withheld (old new : SourceView) : Type 0 where
  pub left : new.left ≡ old.left
  pub grows : old.faults ≤ new.faults
  pub rose : Rose old.faults new.faults

-- where the bytes left are told, there are none
abbrev pub IsSpent : Option (List ℕ) → Type 0
IsSpent None = Unit {0}
IsSpent (Some told) = told ≡ []
