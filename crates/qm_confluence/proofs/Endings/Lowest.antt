-- The lowest number at which a test holds
use Rattle.std.proofs.Common.{◌≡◌, ℕ, zero, suc, ◌<◌, ◌⊎◌, Bool, true, false, inl, inr, sym, subst, refl, arith}
use Rattle.qm_proto.proofs.Meetings.{same_or_below}

-- the test holds at no number below n
abbrev pub NoneBelow : (ℕ → Bool) → ℕ → Type 0
NoneBelow f n = (k : ℕ) → k < n → f k ≡ false

-- r is the lowest number below n at which it holds
pub record IsLowest (f : ℕ → Bool) (n r : ℕ) : Type 0 where
  pub known : r < n
  pub holds : f r ≡ true
  pub below : NoneBelow f r

pub lowest_or_none : (f : ℕ → Bool) (n : ℕ) → NoneBelow f n ⊎ ((r : ℕ) × IsLowest f n r)
lowest_or_none f zero = inl (λ k below. absurd (omega arith))
lowest_or_none f (suc n) = elim (lowest_or_none f n) [
  | inr found ↦ inr (found.0, record { known = omega (arith, found.1.known); holds = found.1.holds; below = found.1.below })
  | inl none ↦ by_last none (f n) refl
]
  where
    by_last : NoneBelow f n → (b : Bool) → f n ≡ b → NoneBelow f (suc n) ⊎ ((r : ℕ) × IsLowest f (suc n) r)
    by_last none true e = inr (n, record { known = omega arith; holds = e; below = none })
    by_last none false e = inl (λ k below. elim (same_or_below k n below) [ inl same ↦ subst (λ j. f j ≡ false) (sym same) e | inr less ↦ none k less ])
