-- Lists of numbers: how often a number stands in one, and how one begins
use Rattle.std.specs.Prelude.{◌≡◌, ℕ, Bool, true, false, ◌+◌, ◌==◌, List, [], ◌∷◌, ◌++◌}

-- n, or 0 where the test fails
abbrev pub when : Bool → ℕ → ℕ
when true n = n
when false n = 0

-- how often a number stands in a list
abbrev pub times : ℕ → List ℕ → ℕ
times r [] = 0
times r (x ∷ xs) = (when (x == r) 1) + times r xs

-- the list begins with what was seen
abbrev pub StartsWith : List ℕ → List ℕ → Type 0
StartsWith list seen = (after : List ℕ) × (list ≡ seen ++ after)
