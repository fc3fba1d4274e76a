-- Circuits that are equal up to a power of root2: an equivalence whose powers add, and that letters after both keep
use Rattle.std.proofs.Common.{◌≡◌, ℕ, ◌+◌, List, ◌++◌, refl, sym, ap, ◌∙◌, arith}
use mathlib.Core.Path.{fun_ext}
use Rattle.qm_zomega.specs.Numbers.{Number, root2_times}
use Rattle.qm_zomega.proofs.Laws.Powers.{root2_times-more, root2_times_swap, root2_times-injective}
use Rattle.qm_denot.specs.declared.Letter.{Letter}
use Rattle.qm_denot.specs.Wires.{Wires}
use Rattle.qm_denot.specs.Circuits.{Amplitudes, Circuit, with_letters, amp, halvings, IsEqualUpTo}
use Rattle.qm_denot.proofs.Amplitudes.{amp-append, halvings-append}
use Rattle.qm_denot.proofs.Linear.{scaled, with_letters-scaled}

pub regroup : (i j m n : ℕ) (z : Number) → i + j ≡ m + n → root2_times i (root2_times j z) ≡ root2_times m (root2_times n z)
regroup i j m n z e = sym (root2_times-more i j z) ∙ ap (λ k. root2_times k z) e ∙ root2_times-more m n z

-- the amplitudes of C and letters after it
pub amp-append_at : (c ls : List Letter) (x : Wires) → amp (c ++ ls) x ≡ with_letters ls (amp c) x
amp-append_at c ls x = ap (λ (f : Amplitudes). f x) (amp-append c ls)

-- equal amplitudes, and p more halvings on the left
pub equal_from_same : (c m : Circuit) (p : ℕ) → halvings c ≡ halvings m + p → ((x : Wires) → amp c x ≡ amp m x) → IsEqualUpTo p c m
equal_from_same c m p n same x = rw n (ap (root2_times (halvings m + p)) (same x))

-- the same, of two lists of letters after one circuit
pub equal_after_same : (c ls ms : List Letter) (p : ℕ) → halvings ls ≡ halvings ms + p
    → ((x : Wires) → with_letters ls (amp c) x ≡ with_letters ms (amp c) x) → IsEqualUpTo p (c ++ ls) (c ++ ms)
equal_after_same c ls ms p n same = equal_from_same (c ++ ls) (c ++ ms) p (omega (arith, halvings-append c ls, halvings-append c ms))
    (λ x. amp-append_at c ls x ∙ same x ∙ sym (amp-append_at c ms x))

-- circuits that are equal with as many halvings have the same amplitudes
pub same_from_equal : (c m : Circuit) → halvings c ≡ halvings m → IsEqualUpTo 0 c m → (x : Wires) → amp c x ≡ amp m x
same_from_equal c m n equal x =
    let e : halvings m + 0 ≡ halvings c = omega arith in
    root2_times-injective (halvings c) _ _ (rw e at (equal x))

-- each circuit is equal to itself
pub equal_refl : (c : Circuit) → IsEqualUpTo 0 c c
equal_refl c = equal_from_same c c 0 (omega arith) (λ x. refl)

scaled-append : (n : ℕ) (c ls : Circuit) (x : Wires) → root2_times n (amp (c ++ ls) x) ≡ with_letters ls (scaled n (amp c)) x
scaled-append n c ls x = ap (root2_times n) (amp-append_at c ls x) ∙ ap (λ (f : Amplitudes). f x) (sym (with_letters-scaled ls n (amp c)))

-- the same letters after both
pub equal_append : (p : ℕ) (c m ls : Circuit) → IsEqualUpTo p c m → IsEqualUpTo p (c ++ ls) (m ++ ls)
equal_append p c m ls equal x =
    let e = halvings ls in
    let left : halvings (m ++ ls) + p ≡ e + (halvings m + p) = omega (arith, halvings-append m ls) in
    let right : halvings (c ++ ls) ≡ e + halvings c = omega (arith, halvings-append c ls) in
    let inner : root2_times (halvings m + p) (amp (c ++ ls) x) ≡ root2_times (halvings c) (amp (m ++ ls) x) =
    scaled-append (halvings m + p) c ls x ∙ ap (λ (f : Amplitudes). with_letters ls f x) (fun_ext equal) ∙ sym (scaled-append (halvings c) m ls x) in
    rw (left, right) (root2_times-more e _ _ ∙ ap (root2_times e) inner ∙ sym (root2_times-more e _ _))

-- the powers of two steps add
pub equal_trans : (p q : ℕ) (c m k : Circuit) → IsEqualUpTo p c m → IsEqualUpTo q m k → IsEqualUpTo (p + q) c k
equal_trans p q c m k first second x =
    root2_times-injective (halvings m) _ _ (
    regroup (halvings m) (halvings k + (p + q)) (halvings k + q) (halvings m + p) (amp c x) (omega arith)
    ∙ ap (root2_times (halvings k + q)) (first x) ∙ root2_times_swap (halvings k + q) (halvings c) (amp m x)
    ∙ ap (root2_times (halvings c)) (second x) ∙ root2_times_swap (halvings c) (halvings m) (amp k x))

-- from a third circuit to which both are equal
pub equal_cancel : (p q : ℕ) (c m k : Circuit) → IsEqualUpTo (p + q) c k → IsEqualUpTo q m k → IsEqualUpTo p c m
equal_cancel p q c m k first second x =
    root2_times-injective (halvings k + q) _ _ (
    regroup (halvings k + q) (halvings m + p) (halvings m) (halvings k + (p + q)) (amp c x) (omega arith)
    ∙ ap (root2_times (halvings m)) (first x) ∙ root2_times_swap (halvings m) (halvings c) (amp k x)
    ∙ ap (root2_times (halvings c)) (sym (second x)) ∙ root2_times_swap (halvings c) (halvings k + q) (amp m x))
