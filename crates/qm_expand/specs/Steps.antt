-- Steps that may end in a fault
use Rattle.std.specs.Prelude.{ℕ, Result, Ok, Err}

-- a fault of the expansion, with its line
pub data Fault : Type 0 where
  UnknownName : (line : ℕ) → Fault
  OutOfRange : (line : ℕ) → Fault
  TooMany : (line : ℕ) → Fault

-- a value, or the first fault
abbrev pub Outcome : Type 0 → Type 0
Outcome A = Result A Fault

-- one step, and the next one on its value where it had no fault
infixl 10 ◌>>=◌
abbrev pub ◌>>=◌ : {A B : Type 0} → Outcome A → (A → Outcome B) → Outcome B
(Ok x) >>= f = f x
(Err e) >>= f = Err e
