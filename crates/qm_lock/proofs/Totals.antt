-- Totals over a list of which one element changes
use Rattle.std.proofs.Common.{◌≡◌, ◌≢◌, ℕ, zero, suc, ◌+◌, ◌≤◌, ◌==◌, List, [], ◌∷◌, ◌++◌, set, sym, refl, ap, subst, ⊎_elim, arith, eq-eqb, ne_eqb}
use mathlib.Core.Option.{some, some-injective, some-ne-none}
use lib.ListN.{get_elem?}
use Rattle.qm_lock.specs.Lists.{when}
use Rattle.qm_lock.specs.Rule.{total}
use Rattle.atomic_table.proofs.Lists.{at_set, at_snoc}

module _ {A : Type 0} where
  -- the sum over all but the i-th
  abbrev pub others : (A → ℕ) → List A → ℕ → ℕ
  others f [] i = 0
  others f (x ∷ xs) zero = total f xs
  others f (x ∷ xs) (suc i) = f x + others f xs i

  pub total_at : (f : A → ℕ) (xs : List A) (i : ℕ) (v : A) → get_elem? xs i ≡ some v → total f xs ≡ f v + others f xs i
  total_at f [] i v e = absurd (some-ne-none v (sym e))
  total_at f (x ∷ xs) zero v e = ap (λ (y : A). f y + total f xs) (some-injective x v e)
  total_at f (x ∷ xs) (suc i) v e = let h = total_at f xs i v e in omega arith

  pub total_set : (f : A → ℕ) (xs : List A) (i : ℕ) (v w : A) → get_elem? xs i ≡ some v → total f (set xs i w) ≡ f w + others f xs i
  total_set f [] i v w e = absurd (some-ne-none v (sym e))
  total_set f (x ∷ xs) zero v w e = refl
  total_set f (x ∷ xs) (suc i) v w e = let h = total_set f xs i v w e in omega arith

  pub total_snoc : (f : A → ℕ) (xs : List A) (w : A) → total f (xs ++ w ∷ []) ≡ total f xs + f w
  total_snoc f [] w = omega arith
  total_snoc f (x ∷ xs) w = let h = total_snoc f xs w in omega arith

  -- a total after one element has changed
  pub moved : (f : A → ℕ) (xs : List A) (i : ℕ) (v w : A) → get_elem? xs i ≡ some v → total f (set xs i w) + f v ≡ total f xs + f w
  moved f xs i v w at = let a = total_at f xs i v at in let b = total_set f xs i v w at in omega arith

  pub kept : (f : A → ℕ) (xs : List A) (i : ℕ) (v w : A) → get_elem? xs i ≡ some v → f w ≡ f v → total f (set xs i w) ≡ total f xs
  kept f xs i v w at e = let h = moved f xs i v w at in omega arith

  -- over the others, where g is 0 wherever f is
  pub others_zero : (f g : A → ℕ) (xs : List A) (i : ℕ) → ((j : ℕ) (v : A) → get_elem? xs j ≡ some v → f v ≡ 0 → g v ≡ 0) → others f xs i ≡ 0 → others g xs i ≡ 0
  others_zero f g [] i h z = refl
  others_zero f g (x ∷ xs) zero h z = all_zero f g xs (λ j v e. h (suc j) v e) z
    where
      all_zero : (f g : A → ℕ) (xs : List A) → ((j : ℕ) (v : A) → get_elem? xs j ≡ some v → f v ≡ 0 → g v ≡ 0) → total f xs ≡ 0 → total g xs ≡ 0
      all_zero f g [] h z = refl
      all_zero f g (x ∷ xs) h z = let a : g x ≡ 0 = h 0 x refl (omega arith) in let b : total g xs ≡ 0 = all_zero f g xs (λ j v e. h (suc j) v e) (omega arith) in omega arith
  others_zero f g (x ∷ xs) (suc i) h z = let a : g x ≡ 0 = h 0 x refl (omega arith) in let b : others g xs i ≡ 0 = others_zero f g xs i (λ j v e. h (suc j) v e) (omega arith) in omega arith

  pub others_le : (f g : A → ℕ) (xs : List A) (i : ℕ) → ((j : ℕ) (v : A) → get_elem? xs j ≡ some v → f v ≤ g v) → others f xs i ≤ others g xs i
  others_le f g [] i h = omega arith
  others_le f g (x ∷ xs) zero h = all_le f g xs (λ j v e. h (suc j) v e)
    where
      all_le : (f g : A → ℕ) (xs : List A) → ((j : ℕ) (v : A) → get_elem? xs j ≡ some v → f v ≤ g v) → total f xs ≤ total g xs
      all_le f g [] h = omega arith
      all_le f g (x ∷ xs) h = let a : f x ≤ g x = h 0 x refl in let b : total f xs ≤ total g xs = all_le f g xs (λ j v e. h (suc j) v e) in omega arith
  others_le f g (x ∷ xs) (suc i) h = let a : f x ≤ g x = h 0 x refl in let b : others f xs i ≤ others g xs i = others_le f g xs i (λ j v e. h (suc j) v e) in omega arith

  pub others_at : (f : A → ℕ) (xs : List A) (i j : ℕ) (u : A) → j ≢ i → get_elem? xs j ≡ some u → f u ≤ others f xs i
  others_at f [] i j u n e = absurd (some-ne-none u (sym e))
  others_at f (x ∷ xs) zero zero u n e = absurd (n refl)
  others_at f (x ∷ xs) zero (suc j) u n e = at_most f xs j u e
    where
      at_most : (f : A → ℕ) (xs : List A) (j : ℕ) (u : A) → get_elem? xs j ≡ some u → f u ≤ total f xs
      at_most f xs j u e = let h = total_at f xs j u e in omega arith
  others_at f (x ∷ xs) (suc i) zero u n e = let h : f x ≡ f u = ap f (some-injective x u e) in omega arith
  others_at f (x ∷ xs) (suc i) (suc j) u n e = let h = others_at f xs i j u (λ q. n (ap suc q)) e in omega arith

  -- a fact of each element, after one has changed
  abbrev pub Each : (A → Type 0) → List A → Type 0
  Each P xs = (i : ℕ) (v : A) → get_elem? xs i ≡ some v → P v

  pub each_set : (P Q : A → Type 0) (xs : List A) (i : ℕ) (w : A) → Each P xs → ((j : ℕ) (v : A) → j ≢ i → get_elem? xs j ≡ some v → P v → Q v) → Q w → Each Q (set xs i w)
  each_set P Q xs i w all go mine j u e = ⊎_elim (λ (t : (j ≡ i) × (w ≡ u)). subst Q t.1 mine) (λ (t : (j ≢ i) × (get_elem? xs j ≡ some u)). go j u t.0 t.1 (all j u t.1)) (at_set xs i j w u e)

  pub each_snoc : (P : A → Type 0) (xs : List A) (w : A) → Each P xs → P w → Each P (xs ++ w ∷ [])
  each_snoc P xs w all mine j u e = ⊎_elim (λ t. all j u t) (λ (t : w ≡ u). subst P t mine) (at_snoc xs w u j e)

pub one_if : (a b : ℕ) → a ≡ b → when (a == b) 1 ≡ 1
one_if a b e = ap (λ t. when t 1) (eq-eqb a b e)

pub none_if : (a b n : ℕ) → a ≢ b → when (a == b) n ≡ 0
none_if a b n e = ap (λ t. when t n) (ne_eqb a b e)

pub all_if : (a b n : ℕ) → a ≡ b → when (a == b) n ≡ n
all_if a b n e = ap (λ t. when t n) (eq-eqb a b e)
