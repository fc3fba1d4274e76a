-- Entries of a list, as they are seen
use Rattle.std.proofs.Common.{◌≡◌, ◌≢◌, ℕ, zero, suc, ◌<◌, ◌≤◌, List, [], ◌∷◌, length, get_or, set, refl, sym, ap, ◌∙◌, arith}
use Rattle.qm_zomega.specs.NumberLists.{seen_at}

module _ {A B : Type 0} (see : A → B) (past : B) where
  pub seen-read : (xs : List A) (i : ℕ) (d : A) → i < length xs → seen_at see past xs i ≡ see (get_or xs i d)
  seen-read [] i d h = absurd (omega arith)
  seen-read (x ∷ xs) zero d h = refl
  seen-read (x ∷ xs) (suc i) d h = seen-read xs i d (omega arith)

  -- what was read at an index is the entry there
  pub seen-here : (xs : List A) (i : ℕ) (z : A) → i < length xs → z ≡ get_or xs i z → seen_at see past xs i ≡ see z
  seen-here xs i z h e = seen-read xs i z h ∙ ap see (sym e)

  -- past the end
  pub seen-past : (xs : List A) (i : ℕ) → length xs ≤ i → seen_at see past xs i ≡ past
  seen-past [] i h = refl
  seen-past (x ∷ xs) zero h = absurd (omega arith)
  seen-past (x ∷ xs) (suc i) h = seen-past xs i (omega arith)

  pub seen-set_same : (xs : List A) (i : ℕ) (z : A) → i < length xs → seen_at see past (set xs i z) i ≡ see z
  seen-set_same [] i z h = absurd (omega arith)
  seen-set_same (x ∷ xs) zero z h = refl
  seen-set_same (x ∷ xs) (suc i) z h = seen-set_same xs i z (omega arith)

  pub seen-set_other : (xs : List A) (i j : ℕ) (z : A) → j ≢ i → seen_at see past (set xs i z) j ≡ seen_at see past xs j
  seen-set_other [] i j z ne = refl
  seen-set_other (x ∷ xs) zero zero z ne = absurd (ne refl)
  seen-set_other (x ∷ xs) zero (suc j) z ne = refl
  seen-set_other (x ∷ xs) (suc i) zero z ne = refl
  seen-set_other (x ∷ xs) (suc i) (suc j) z ne = seen-set_other xs i j z (λ e. ne (ap suc e))
