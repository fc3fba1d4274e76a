-- omega and root2, and their powers: additive, and in any order
use Rattle.std.proofs.Common.{◌≡◌, ◌∙◌, ℕ, zero, suc, ◌+◌, ap, arith, refl, sym, ◌+ℤ◌}
use Rattle.std.proofs.lemmas.Int.{ints}
use Rattle.qm_zomega.specs.Numbers.{Number, plus, minus, ◌⊕◌, ◌⊖◌, negative, zero_number, turned, omega_times, root2_of, root2_times}
use Rattle.qm_zomega.proofs.Laws.Ring.{same}

-- ---- omega
pub turned-zero : turned zero_number ≡ zero_number
unfolding turned
turned-zero = refl

pub turned-add : (z w : Number) → turned (z ⊕ w) ≡ turned z ⊕ turned w
unfolding turned plus
turned-add z w = same _ _ (omega (arith, ints)) (omega (arith, ints)) (omega (arith, ints)) (omega (arith, ints))

pub turned-sub : (z w : Number) → turned (z ⊖ w) ≡ turned z ⊖ turned w
unfolding turned minus
turned-sub z w = same _ _ (omega (arith, ints)) (omega (arith, ints)) (omega (arith, ints)) (omega (arith, ints))

pub turned-negative : (z : Number) → turned (negative z) ≡ negative (turned z)
unfolding turned negative
turned-negative z = same _ _ (omega (arith, ints)) (omega (arith, ints)) (omega (arith, ints)) (omega (arith, ints))

pub omega4 : (z : Number) → omega_times 4 z ≡ negative z
unfolding turned negative
omega4 z = same _ _ (omega (arith, ints)) (omega (arith, ints)) (omega (arith, ints)) (omega (arith, ints))

pub omega8 : (z : Number) → omega_times 8 z ≡ z
unfolding turned
omega8 z = same _ _ (omega (arith, ints)) (omega (arith, ints)) (omega (arith, ints)) (omega (arith, ints))

pub omega4-zero : omega_times 4 zero_number ≡ zero_number
unfolding turned
omega4-zero = refl

pub omega4-zero-minus : (z : Number) → omega_times 4 (zero_number ⊖ z) ≡ z
unfolding minus turned
omega4-zero-minus z = same _ _ (omega (arith, ints)) (omega (arith, ints)) (omega (arith, ints)) (omega (arith, ints))

pub turned-injective : (z w : Number) → turned z ≡ turned w → z ≡ w
turned-injective z w e = sym (omega8 z) ∙ ap (omega_times 7) e ∙ omega8 w

-- ---- powers of omega
pub omega_times-zero : (k : ℕ) → omega_times k zero_number ≡ zero_number
omega_times-zero zero = refl
omega_times-zero (suc k) = ap turned (omega_times-zero k) ∙ turned-zero

pub omega_times-add : (k : ℕ) (z w : Number) → omega_times k (z ⊕ w) ≡ omega_times k z ⊕ omega_times k w
omega_times-add zero z w = refl
omega_times-add (suc k) z w = ap turned (omega_times-add k z w) ∙ turned-add _ _

pub omega_times-sub : (k : ℕ) (z w : Number) → omega_times k (z ⊖ w) ≡ omega_times k z ⊖ omega_times k w
omega_times-sub zero z w = refl
omega_times-sub (suc k) z w = ap turned (omega_times-sub k z w) ∙ turned-sub _ _

pub omega_times-negative : (k : ℕ) (z : Number) → omega_times k (negative z) ≡ negative (omega_times k z)
omega_times-negative zero z = refl
omega_times-negative (suc k) z = ap turned (omega_times-negative k z) ∙ turned-negative _

-- powers of omega multiply by adding their exponents
pub omega_times-more : (j k : ℕ) (z : Number) → omega_times (j + k) z ≡ omega_times j (omega_times k z)
omega_times-more zero k z = let e : 0 + k ≡ k = omega arith in rw e refl
omega_times-more (suc j) k z = let e : suc j + k ≡ suc (j + k) = omega arith in rw e (ap turned (omega_times-more j k z))

pub omega_times_swap : (j k : ℕ) (z : Number) → omega_times j (omega_times k z) ≡ omega_times k (omega_times j z)
omega_times_swap j k z = let e : j + k ≡ k + j = omega arith in sym (omega_times-more j k z) ∙ rw e (omega_times-more k j z)

pub omega_times-injective : (k : ℕ) (z w : Number) → omega_times k z ≡ omega_times k w → z ≡ w
omega_times-injective zero z w e = e
omega_times-injective (suc k) z w e = omega_times-injective k z w (turned-injective _ _ e)

-- a power of omega times z is 0 only where z is
pub zero_where_omega_times-zero : (k : ℕ) (z : Number) → omega_times k z ≡ zero_number → z ≡ zero_number
zero_where_omega_times-zero k z e = omega_times-injective k z zero_number (e ∙ sym (omega_times-zero k))

-- ---- root2
pub root2-zero : root2_of zero_number ≡ zero_number
unfolding root2_of
root2-zero = refl

pub root2-add : (z w : Number) → root2_of (z ⊕ w) ≡ root2_of z ⊕ root2_of w
unfolding root2_of plus
root2-add z w = same _ _ (omega (arith, ints)) (omega (arith, ints)) (omega (arith, ints)) (omega (arith, ints))

pub root2-sub : (z w : Number) → root2_of (z ⊖ w) ≡ root2_of z ⊖ root2_of w
unfolding root2_of minus
root2-sub z w = same _ _ (omega (arith, ints)) (omega (arith, ints)) (omega (arith, ints)) (omega (arith, ints))

pub negative-root2 : (z : Number) → root2_of (negative z) ≡ negative (root2_of z)
unfolding root2_of negative
negative-root2 z = same _ _ (omega (arith, ints)) (omega (arith, ints)) (omega (arith, ints)) (omega (arith, ints))

pub turned-root2 : (z : Number) → turned (root2_of z) ≡ root2_of (turned z)
unfolding turned root2_of
turned-root2 z = same _ _ (omega (arith, ints)) (omega (arith, ints)) (omega (arith, ints)) (omega (arith, ints))

-- root2 twice is doubling
pub root2-root2 : (z : Number) → root2_of (root2_of z) ≡ z ⊕ z
unfolding root2_of plus
root2-root2 z = same _ _ (omega (arith, ints)) (omega (arith, ints)) (omega (arith, ints)) (omega (arith, ints))

-- doubling cancels
pub doubled-injective : (z w : Number) → z ⊕ z ≡ w ⊕ w → z ≡ w
unfolding plus
doubled-injective z w e =
    let a : z.a +ℤ z.a ≡ w.a +ℤ w.a = ap (λ (t : Number). t.a) e in
    let b : z.b +ℤ z.b ≡ w.b +ℤ w.b = ap (λ (t : Number). t.b) e in
    let c : z.c +ℤ z.c ≡ w.c +ℤ w.c = ap (λ (t : Number). t.c) e in
    let d : z.d +ℤ z.d ≡ w.d +ℤ w.d = ap (λ (t : Number). t.d) e in
    same _ _ (omega (arith, ints)) (omega (arith, ints)) (omega (arith, ints)) (omega (arith, ints))

-- root2 cancels
pub root2-injective : (z w : Number) → root2_of z ≡ root2_of w → z ≡ w
root2-injective z w e = doubled-injective z w (sym (root2-root2 z) ∙ ap root2_of e ∙ root2-root2 w)

-- ---- powers of root2
pub root2_times-zero : (n : ℕ) → root2_times n zero_number ≡ zero_number
root2_times-zero zero = refl
root2_times-zero (suc n) = ap root2_of (root2_times-zero n) ∙ root2-zero

pub root2_times-add : (n : ℕ) (z w : Number) → root2_times n (z ⊕ w) ≡ root2_times n z ⊕ root2_times n w
root2_times-add zero z w = refl
root2_times-add (suc n) z w = ap root2_of (root2_times-add n z w) ∙ root2-add _ _

pub root2_times-sub : (n : ℕ) (z w : Number) → root2_times n (z ⊖ w) ≡ root2_times n z ⊖ root2_times n w
root2_times-sub zero z w = refl
root2_times-sub (suc n) z w = ap root2_of (root2_times-sub n z w) ∙ root2-sub _ _

pub root2_times-negative : (n : ℕ) (z : Number) → root2_times n (negative z) ≡ negative (root2_times n z)
root2_times-negative zero z = refl
root2_times-negative (suc n) z = ap root2_of (root2_times-negative n z) ∙ negative-root2 _

pub root2_times-turned : (n : ℕ) (z : Number) → root2_times n (turned z) ≡ turned (root2_times n z)
root2_times-turned zero z = refl
root2_times-turned (suc n) z = ap root2_of (root2_times-turned n z) ∙ sym (turned-root2 _)

pub root2_times-omega : (n k : ℕ) (z : Number) → root2_times n (omega_times k z) ≡ omega_times k (root2_times n z)
root2_times-omega n zero z = refl
root2_times-omega n (suc k) z = root2_times-turned n _ ∙ ap turned (root2_times-omega n k z)

-- powers of root2 multiply by adding their exponents
pub root2_times-more : (m n : ℕ) (z : Number) → root2_times (m + n) z ≡ root2_times m (root2_times n z)
root2_times-more zero n z = let e : 0 + n ≡ n = omega arith in rw e refl
root2_times-more (suc m) n z = let e : suc m + n ≡ suc (m + n) = omega arith in rw e (ap root2_of (root2_times-more m n z))

pub root2_times_swap : (m n : ℕ) (z : Number) → root2_times m (root2_times n z) ≡ root2_times n (root2_times m z)
root2_times_swap m n z = let e : m + n ≡ n + m = omega arith in sym (root2_times-more m n z) ∙ rw e (root2_times-more n m z)

-- a power of root2 cancels
pub root2_times-injective : (n : ℕ) (y z : Number) → root2_times n y ≡ root2_times n z → y ≡ z
root2_times-injective zero y z e = e
root2_times-injective (suc n) y z e = root2_times-injective n y z (root2-injective _ _ e)

-- a power of root2 times z is 0 only where z is
pub zero_where_root2_times-zero : (n : ℕ) (z : Number) → root2_times n z ≡ zero_number → z ≡ zero_number
zero_where_root2_times-zero n z e = root2_times-injective n z zero_number (e ∙ sym (root2_times-zero n))
