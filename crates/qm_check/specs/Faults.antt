-- The first of the faults at many sites
use Rattle.std.specs.Prelude.{◌≡◌, ℕ, ◌<◌, ◌⊎◌, Bool, true, false, Option, Some, None}
use Rattle.qm_check.specs.declared.Fault.{Fault}

-- the first fault, in an order of the sites: none where no site has one
abbrev pub IsFirst : {A : Type 0} → (A → A → Type 0) → (A → Option Fault) → Option Fault → Type 0
IsFirst {A} IsBefore fault_at None = (a : A) → fault_at a ≡ None
IsFirst {A} IsBefore fault_at (Some f) =
    (a : A) × (fault_at a ≡ Some f) × ((b : A) → IsBefore b a → fault_at b ≡ None)

-- numbers in their order
abbrev pub IsBelow : ℕ → ℕ → Type 0
IsBelow a b = a < b

-- instructions in the order of their ranks, and in that of the program
abbrev pub IsEarlierStep : ℕ × ℕ → ℕ × ℕ → Type 0
IsEarlierStep a b = (a.0 < b.0) ⊎ ((a.0 ≡ b.0) × (a.1 < b.1))

-- tapes in the order of their ranks, the own tape before the other one
abbrev pub IsEarlierTape : ℕ × Bool → ℕ × Bool → Type 0
IsEarlierTape a b = (a.0 < b.0) ⊎ ((a.0 ≡ b.0) × (a.1 ≡ true) × (b.1 ≡ false))
