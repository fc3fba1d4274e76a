-- The first fault of the tapes
use Rattle.std.proofs.Common.{◌≡◌, ℕ, ◌<◌, ◌⊎◌, Bool, true, false, Option, Some, None, inl, inr, refl, ap, ◌∙◌}
use Rattle.std.specs.Option.{option_or}
use Rattle.qm_check.specs.declared.Fault.{Fault}
use Rattle.qm_check.specs.Faults.{IsFirst, IsEarlierTape}

-- a rank's own tape is before its other one
abbrev pub IsOwnFirst : Bool → Bool → Type 0
IsOwnFirst a b = (a ≡ true) × (b ≡ false)

pub tape_parts : (a b : ℕ × Bool) → IsEarlierTape a b → (a.0 < b.0) ⊎ ((a.0 ≡ b.0) × IsOwnFirst a.1 b.1)
tape_parts a b (inl lower) = inl lower
tape_parts a b (inr (same, own, other)) = inr (same, (own, other))

-- the first fault of a rank's tapes
own_before : (fault_at : Bool → Option Fault) (x y : Option Fault) → fault_at true ≡ x → fault_at false ≡ y
    → IsFirst IsOwnFirst fault_at (option_or x y)
own_before fault_at (Some f) y own other = (true, own, λ b e. absurd (let never : true ≡ false = e.1 in cc))
own_before fault_at None (Some f) own other = (false, other, λ b e. ap fault_at e.0 ∙ own)
own_before fault_at None None own other = λ b. elim b as (λ k. fault_at k ≡ None) [ true ↦ own | false ↦ other ]

pub tapes_of_rank : (fault_at : Bool → Option Fault) → IsFirst IsOwnFirst fault_at (option_or (fault_at true) (fault_at false))
tapes_of_rank fault_at = own_before fault_at (fault_at true) (fault_at false) refl refl
