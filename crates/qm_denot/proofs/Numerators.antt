-- Numbers of a list of numerators
use Rattle.std.proofs.Common.{◌≡◌, ◌≢◌, ℕ, zero, suc, ◌+◌, ◌<◌, ◌≤◌, ◌++◌, ◌⊎◌, Bool, true, cond, List, [], ◌∷◌, length, get_or, set, take, replicate, below_more, refl, sym, ap, ◌∙◌, arith}
use Rattle.std.proofs.lemmas.List.{take_all}
use Rattle.qm_zomega.specs.declared.Zw.{Zw}
use Rattle.qm_zomega.specs.Zw.{value_of}
use Rattle.qm_zomega.specs.Numbers.{Number, zero_number}
use Rattle.qm_zomega.specs.NumberLists.{number_at}

pub number_at_read : (zs : List Zw) (i : ℕ) (d : Zw) → i < length zs → number_at zs i ≡ value_of (get_or zs i d)
number_at_read [] i d h = absurd (omega arith)
number_at_read (y ∷ zs) zero d h = refl
number_at_read (y ∷ zs) (suc i) d h = number_at_read zs i d (omega arith)

pub number_here : (zs : List Zw) (i : ℕ) (z : Zw) → i < length zs → z ≡ get_or zs i z → number_at zs i ≡ value_of z
number_here zs i z h e = number_at_read zs i z h ∙ ap value_of (sym e)

-- past the end of the list stand zeros
pub number_past : (zs : List Zw) (k : ℕ) → length zs ≤ k → number_at zs k ≡ zero_number
number_past [] k h = refl
number_past (z ∷ zs) zero h = absurd (omega arith)
number_past (z ∷ zs) (suc k) h = number_past zs k (omega arith)

-- an index is within the list, or past it
pub side : (zs : List Zw) (k : ℕ) → (k < length zs) ⊎ (length zs ≤ k)
side zs k = grind arith

pub number_at-push_before : (zs : List Zw) (z : Zw) (k : ℕ) → k < length zs → number_at (zs ++ z ∷ []) k ≡ number_at zs k
number_at-push_before [] z k h = absurd (omega arith)
number_at-push_before (y ∷ zs) z zero h = refl
number_at-push_before (y ∷ zs) z (suc k) h = number_at-push_before zs z k (omega arith)

pub number_at-push_last : (zs : List Zw) (z : Zw) → number_at (zs ++ z ∷ []) (length zs) ≡ value_of z
number_at-push_last [] z = refl
number_at-push_last (y ∷ zs) z = number_at-push_last zs z

-- what was read at an index is the number there
pub number_read : (zs : List Zw) (i j : ℕ) (z : Zw) → i ≡ j → i < length zs → z ≡ get_or zs i z → value_of z ≡ number_at zs j
number_read zs i j z same below read = sym (number_here zs i z below read) ∙ ap (number_at zs) same

pub number_at-set_same : (zs : List Zw) (i : ℕ) (z : Zw) → i < length zs → number_at (set zs i z) i ≡ value_of z
number_at-set_same [] i z h = absurd (omega arith)
number_at-set_same (y ∷ zs) zero z h = refl
number_at-set_same (y ∷ zs) (suc i) z h = number_at-set_same zs i z (omega arith)

pub number_at-set_other : (zs : List Zw) (i j : ℕ) (z : Zw) → j ≢ i → number_at (set zs i z) j ≡ number_at zs j
number_at-set_other [] i j z ne = refl
number_at-set_other (y ∷ zs) zero zero z ne = absurd (ne refl)
number_at-set_other (y ∷ zs) zero (suc j) z ne = refl
number_at-set_other (y ∷ zs) (suc i) zero z ne = refl
number_at-set_other (y ∷ zs) (suc i) (suc j) z ne = number_at-set_other zs i j z (λ e. ne (ap suc e))

-- a push that succeeds puts the value at the end
pub items-pushed : {A : Type 0} (r : Bool) (xs ys : List A) (x : A) → ys ≡ cond r (xs ++ x ∷ []) xs → r ≡ true → ys ≡ xs ++ x ∷ []
items-pushed r xs ys x e ok = e ∙ ap (λ b. cond b (xs ++ x ∷ []) xs) ok

-- a list filled in step with f, by one more number
pub numbers-push : (zs ys : List Zw) (z : Zw) (k : ℕ) (f : ℕ → Number) → ys ≡ zs ++ z ∷ [] → length zs ≡ k
    → ((j : ℕ) → j < k → number_at zs j ≡ f j) → value_of z ≡ f k → (j : ℕ) → j < k + 1 → number_at ys j ≡ f j
numbers-push zs ys z k f pushed size before last =
    rw pushed (below_more _ _
    (λ j h. number_at-push_before zs z j (omega arith) ∙ before j h)
    (ap (number_at (zs ++ z ∷ [])) (sym size) ∙ number_at-push_last zs z ∙ last))

number_at-replicate : (m k : ℕ) (z : Zw) → value_of z ≡ zero_number → number_at (replicate m z) k ≡ zero_number
number_at-replicate zero k z e = refl
number_at-replicate (suc m) zero z e = e
number_at-replicate (suc m) (suc k) z e = number_at-replicate m k z e

-- zeros at the end change no number
pub number_at-append_zeros : (zs : List Zw) (m k : ℕ) (z : Zw) → value_of z ≡ zero_number → number_at (zs ++ replicate m z) k ≡ number_at zs k
number_at-append_zeros [] m k z e = number_at-replicate m k z e
number_at-append_zeros (y ∷ zs) m zero z e = refl
number_at-append_zeros (y ∷ zs) m (suc k) z e = number_at-append_zeros zs m k z e

-- a list made longer by zeros has the numbers that it had
pub number_at-resized : (r : Bool) (zs ys : List Zw) (n m : ℕ) (z : Zw) → ys ≡ cond r (take n zs ++ replicate m z) zs → r ≡ true → length zs ≤ n → value_of z ≡ zero_number
    → (k : ℕ) → number_at ys k ≡ number_at zs k
number_at-resized r zs ys n m z e ok long zeros k =
    ap (λ ys. number_at ys k)
    (e ∙ ap (λ b. cond b (take n zs ++ replicate m z) zs) ok ∙ ap (λ xs. xs ++ replicate m z) (take_all n zs long))
    ∙ number_at-append_zeros zs m k z zeros
