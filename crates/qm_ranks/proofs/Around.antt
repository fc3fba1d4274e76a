-- The cyclic order of the ranks: from each start it comes to every rank
use Rattle.std.proofs.Common.{◌≡◌, ◌∙◌, ℕ, ◌+◌, ◌-◌, ◌%◌, ◌<◌, ◌≤◌, ◌⊎◌, inl, inr, ap, arith}
use Rattle.std.proofs.Math.Nat.{mod-eq_of_lt, add-mod_left}

from_below_or_above : (a b : ℕ) → (a ≤ b) ⊎ (b < a)
from_below_or_above a b = grind arith

pub comes_to : (n start r : ℕ) → start < n → r < n → (k : ℕ) × (k < n) × ((start + k) % n ≡ r)
comes_to n start r first known = elim (from_below_or_above start r) [
  | inl up ↦
      let there : start + (r - start) ≡ r = omega arith in
      (r - start, omega arith, ap (λ k. k % n) there ∙ mod-eq_of_lt known)
  | inr down ↦
      let there : start + (r + n - start) ≡ n + r = omega arith in
      (r + n - start, omega arith, ap (λ k. k % n) there ∙ add-mod_left n r ∙ mod-eq_of_lt known)
]
