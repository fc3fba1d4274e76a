-- Texts for the numbers below a bound
use Rattle.std.specs.Prelude.{ℕ, zero, suc, List, [], ◌++◌}

-- f 0, f 1, .. , n of them, one behind the other
abbrev pub text_below : (ℕ → List ℕ) → ℕ → List ℕ
text_below f zero = []
text_below f (suc n) = text_below f n ++ f n
