-- Lists of numbers that grow and shrink
use Rattle.std.proofs.Common.{◌≡◌, ℕ, zero, suc, ◌*◌, ◌<◌, ◌≤◌, ◌++◌, Bool, true, cond, List, [], ◌∷◌, length, take, replicate, refl, ap, subst, ◌∙◌, arith}
use mathlib.Core.Path.{fun_ext}
use Rattle.std.proofs.lemmas.List.{take_all}
use Rattle.qm_zomega.specs.Numbers.{Number, zero_number}
use Rattle.qm_zomega.specs.NumberLists.{meant_at, IsListBy}
use Rattle.qm_denot.specs.LettersByPlace.{pair_at}
use Rattle.qm_kernels.specs.Done.{IsComputed}

module _ {A : Type 0} (meaning : A → Number) where
  meant-replicate : (m k : ℕ) (z : A) → meaning z ≡ zero_number → meant_at meaning (replicate m z) k ≡ zero_number
  meant-replicate zero k z e = refl
  meant-replicate (suc m) zero z e = e
  meant-replicate (suc m) (suc k) z e = meant-replicate m k z e

  meant-append_zeros : (zs : List A) (m k : ℕ) (z : A) → meaning z ≡ zero_number → meant_at meaning (zs ++ replicate m z) k ≡ meant_at meaning zs k
  meant-append_zeros [] m k z e = meant-replicate m k z e
  meant-append_zeros (y ∷ zs) m zero z e = refl
  meant-append_zeros (y ∷ zs) m (suc k) z e = meant-append_zeros zs m k z e

  -- a list made longer by zeros has the numbers that it had
  pub meant-resized : (r : Bool) (zs ys : List A) (n m : ℕ) (z : A) → ys ≡ cond r (take n zs ++ replicate m z) zs → r ≡ true → length zs ≤ n → meaning z ≡ zero_number
      → (k : ℕ) → meant_at meaning ys k ≡ meant_at meaning zs k
  meant-resized r zs ys n m z e ok long zeros k =
      ap (λ ys. meant_at meaning ys k)
      (e ∙ ap (λ b. cond b (take n zs ++ replicate m z) zs) ok ∙ ap (λ xs. xs ++ replicate m z) (take_all n zs long))
      ∙ meant-append_zeros zs m k z zeros

  pub meant-take : (n : ℕ) (zs : List A) (i : ℕ) → i < n → meant_at meaning (take n zs) i ≡ meant_at meaning zs i
  meant-take zero zs i h = absurd (omega arith)
  meant-take (suc n) [] i h = refl
  meant-take (suc n) (z ∷ zs) zero h = refl
  meant-take (suc n) (z ∷ zs) (suc i) h = meant-take n zs i (omega arith)

  pub paired_from : (n : ℕ) (old grown new : List A) → length grown ≡ length old * 4 → ((i : ℕ) → meant_at meaning grown i ≡ meant_at meaning old i)
      → IsComputed meaning (pair_at zero_number n) grown new
      → IsListBy meaning zero_number new (length old * 4) (pair_at zero_number n (meant_at meaning old))
  paired_from n old grown new size same paired =
      let all : meant_at meaning grown ≡ meant_at meaning old = fun_ext same in
      subst (λ m. IsListBy meaning zero_number new m (pair_at zero_number n (meant_at meaning old))) size
      (subst (λ (f : ℕ → Number). IsListBy meaning zero_number new (length grown) (pair_at zero_number n f)) all paired)
