-- Elements of a list and their places
use Rattle.std.proofs.Common.{◌≡◌, ℕ, zero, suc, List, [], ◌∷◌, ◌++◌, length, refl, ap, ◌∙◌, subst}
use Rattle.std.specs.Prelude.{Some, slice_get}

module _ {A : Type 0} where
  -- an element between others
  pub seam : (xs : List A) (y : A) (zs : List A) → slice_get (xs ++ y ∷ zs) (length xs) ≡ Some y
  seam [] y zs = refl
  seam (x ∷ xs) y zs = seam xs y zs

  -- the last element, and those before it
  pub last_at : (all rest : List A) (y : A) → all ≡ rest ++ y ∷ [] → slice_get all (length rest) ≡ Some y
  last_at all rest y e = ap (λ (l : List A). slice_get l (length rest)) e ∙ seam rest y []

  longer : (xs ys : List A) (k : ℕ) (x : A) → slice_get xs k ≡ Some x → slice_get (xs ++ ys) k ≡ Some x
  longer [] ys k x h = absurd (cc)
  longer (z ∷ xs) ys zero x h = h
  longer (z ∷ xs) ys (suc k) x h = longer xs ys k x h

  pub before : (all rest : List A) (y : A) → all ≡ rest ++ y ∷ [] → (k : ℕ) (x : A) → slice_get rest k ≡ Some x → slice_get all k ≡ Some x
  before all rest y e k x h = ap (λ (l : List A). slice_get l k) e ∙ longer rest (y ∷ []) k x h

  -- a fact of each element and its place, where one is pushed
  pub each_push : (P : ℕ → A → Type 0) (xs : List A) (x : A) → ((k : ℕ) (y : A) → slice_get xs k ≡ Some y → P k y) → P (length xs) x → (k : ℕ) (y : A) → slice_get (xs ++ x ∷ []) k ≡ Some y → P k y
  each_push P [] x h p zero y e = let q : x ≡ y = cc in subst (P 0) q p
  each_push P [] x h p (suc k) y e = absurd (cc)
  each_push P (z ∷ zs) x h p zero y e = h 0 y e
  each_push P (z ∷ zs) x h p (suc k) y e = each_push (λ j u. P (suc j) u) zs x (λ j u q. h (suc j) u q) p k y e
