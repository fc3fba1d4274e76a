-- Components of numbers
use Rattle.std.specs.Prelude.{◌≡◌, ℤ, ◌+ℤ◌}

-- x is twice a whole number
abbrev pub IsEven : ℤ → Type 0
IsEven x = (h : ℤ) × (h +ℤ h ≡ x)
