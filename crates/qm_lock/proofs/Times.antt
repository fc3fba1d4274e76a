-- How often a number stands in a list
use Rattle.std.proofs.Common.{◌≡◌, ℕ, Bool, true, false, ◌+◌, ◌≤◌, ◌==◌, List, [], ◌∷◌, ◌++◌, length, refl, arith}
use Rattle.qm_lock.specs.Lists.{when, times}
use Rattle.qm_lock.proofs.Totals.{one_if}

at_most_one : (b : Bool) → when b 1 ≤ 1
at_most_one true = omega arith
at_most_one false = omega arith

-- no oftener than the list is long
pub times_few : (r : ℕ) (xs : List ℕ) → times r xs ≤ length xs
times_few r [] = omega arith
times_few r (x ∷ xs) = let a = at_most_one (x == r) in let h = times_few r xs in omega arith

-- a number more at the end
pub times-snoc : (r : ℕ) (xs : List ℕ) (x : ℕ) → times r (xs ++ x ∷ []) ≡ times r xs + when (x == r) 1
times-snoc r [] x = omega arith
times-snoc r (y ∷ ys) x = let h = times-snoc r ys x in omega arith

pub times_own : (r : ℕ) (xs : List ℕ) → times r (xs ++ r ∷ []) ≡ times r xs + 1
times_own r xs = let a = times-snoc r xs r in let b = one_if r r refl in omega arith
