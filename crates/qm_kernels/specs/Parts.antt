-- The range of the components of narrow numbers
use Rattle.std.specs.Prelude.{◌<◌, ◌^◌, ℤ, unsigned_abs}

-- the absolute value is below 2^30
abbrev pub IsPart : ℤ → Type 0
IsPart x = unsigned_abs x < 2 ^ 30

-- the absolute value is below 2^24
abbrev pub IsLightPart : ℤ → Type 0
IsLightPart x = unsigned_abs x < 2 ^ 24
