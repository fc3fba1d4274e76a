-- Lists of numbers with small components
use Rattle.std.specs.Prelude.{ℕ, List}
use Rattle.qm_zomega.specs.Numbers.{Number}
use Rattle.qm_zomega.specs.NumberLists.{meant_at}
use Rattle.qm_zomega.specs.Range.{IsBelow}

-- the absolute value of each component of each number is below 2^n
abbrev pub AllBelow : {A : Type 0} → (A → Number) → ℕ → List A → Type 0
AllBelow meaning n xs = (i : ℕ) → IsBelow n (meant_at meaning xs i)
