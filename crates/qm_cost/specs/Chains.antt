-- Chains of events, their lengths, and the one chain that a report names
use Rattle.std.specs.Prelude.{◌≡◌, ℕ, ◌+◌, ◌<◌, ◌≤◌, List, [], ◌∷◌, Option, Some, None, unwrap_or}

-- events that are numbered from 0, how long each takes, and which are direct predecessors of which
pub record Work : Type 0 where
  pub count : ℕ
  pub takes : ℕ → ℕ
  pub lag : ℕ → ℕ → Option ℕ  -- of two events: the lag where the first is a direct predecessor of the second, else None

-- event i is a direct predecessor of event j
abbrev pub IsBefore : Work → ℕ → ℕ → Type 0
IsBefore w i j = (l : ℕ) × (w.lag i j ≡ Some l)

-- event j may go on behind a chain, which is listed from its end
abbrev pub MayFollow : Work → List ℕ → ℕ → Type 0
MayFollow w [] j = Unit {0}
MayFollow w (i ∷ is) j = IsBefore w i j

-- each event is a direct predecessor of the next; the events are listed from the last one to the first
abbrev pub IsChain : Work → List ℕ → Type 0
IsChain w [] = Unit {0}
IsChain w (j ∷ is) = (j < w.count) × MayFollow w is j × IsChain w is

-- the lag between a chain and event j behind it
abbrev pub lag_behind : Work → List ℕ → ℕ → ℕ
lag_behind w [] j = 0
lag_behind w (i ∷ is) j = unwrap_or (w.lag i j) 0

-- the durations and the lags of a chain
abbrev pub length_of : Work → List ℕ → ℕ
length_of w [] = 0
length_of w (j ∷ is) = w.takes j + (lag_behind w is j + length_of w is)

-- no chain of that length ends at an event with a lower number; the chain is empty only where no event is there
abbrev pub EndsFirst : Work → List ℕ → Type 0
EndsFirst w [] = w.count ≡ 0
EndsFirst w (j ∷ is) = (k : ℕ) (ks : List ℕ) → IsChain w (k ∷ ks) → length_of w (k ∷ ks) ≡ length_of w (j ∷ is) → j ≤ k

-- from no direct predecessor of event j with a lower number can the length be had; the chain begins at j only where j has none
abbrev pub GoesBackFirst : Work → ℕ → List ℕ → Type 0
GoesBackFirst w j [] = (i : ℕ) → w.lag i j ≡ None
GoesBackFirst w j (i ∷ is) =
    (k : ℕ) (ks : List ℕ) → IsChain w (j ∷ k ∷ ks) → length_of w (j ∷ k ∷ ks) ≡ length_of w (j ∷ i ∷ is) → i ≤ k

-- and so at each of its events
abbrev pub GoesBack : Work → List ℕ → Type 0
GoesBack w [] = Unit {0}
GoesBack w (j ∷ is) = GoesBackFirst w j is × GoesBack w is

-- the chain that a report names, listed from its end
pub record IsReported (w : Work) (c : List ℕ) : Type 0 where
  pub chain : IsChain w c
  pub longest : (d : List ℕ) → IsChain w d → length_of w d ≤ length_of w c
  pub last : EndsFirst w c
  pub before : GoesBack w c

-- each event with the length of the chain up to it, from the last one to the first
abbrev pub finishes : Work → List ℕ → List ℕ
finishes w [] = []
finishes w (j ∷ is) = length_of w (j ∷ is) ∷ finishes w is
