-- A sum over the indices of a list's sets is the sum over the sets of its wires
use Rattle.std.proofs.Common.{◌≡◌, ℕ, zero, suc, ◌+◌, ◌*◌, ◌%◌, ◌^◌, ◌≤◌, nat_eq, Bool, true, false, List, [], ◌∷◌, length, inl, inr, refl, ap, ◌∙◌, arith}
use Rattle.std.proofs.lemmas.Bool.{cases_eq}
use Rattle.std.proofs.Math.Nat.{pow-succ'}
use Rattle.qm_denot.specs.declared.Wire.{Wire}
use Rattle.qm_denot.specs.Wires.{Wires, put, no_wires}
use Rattle.qm_denot.specs.WireLists.{Distinct}
use Rattle.qm_denot.specs.Places.{bit_of, set_at}
use Rattle.qm_denot.specs.Weights.{total}
use Rattle.qm_denot.proofs.PlaceLaws.{half_bit, rest_bit, test_bit}
use Rattle.qm_denot.proofs.Totals.{total-plus, total-put}
use Rattle.qm_proto.specs.Model.Totals.{sum_below}
use Rattle.qm_proto.proofs.Sums.{sum_below-same}

-- a sum of fewer terms is not larger
pub sum_below-more : (f : ℕ → ℕ) (m n : ℕ) → m ≤ n → sum_below f m ≤ sum_below f n
sum_below-more f m zero h = let e : m ≡ 0 = omega arith in rw e (omega arith)
sum_below-more f m (suc n) h = elim (cases_eq m (suc n)) [
  | inl e ↦ rw e (omega arith)
  | inr ne ↦ let rest = sum_below-more f m n (omega arith) in omega arith
]

-- its terms taken in pairs
sum_below-pairs : (f : ℕ → ℕ) (n : ℕ) → sum_below f (2 * n)
    ≡ sum_below (λ k. f (bit_of false + 2 * k) + f (bit_of true + 2 * k)) n
sum_below-pairs f zero = refl
sum_below-pairs f (suc n) =
    let e : 2 * suc n ≡ suc (suc (2 * n)) = omega arith in
    let low : f (bit_of false + 2 * n) ≡ f (2 * n) = ap f (omega arith) in
    let high : f (bit_of true + 2 * n) ≡ f (suc (2 * n)) = ap f (omega arith) in
    let rest = sum_below-pairs f n in
    rw e (omega (arith, rest, low, high))

-- an index's last bit is whether the first wire is one
at_bit : (ws : List Wire) (w : Wire) (b : Bool) (k : ℕ) → set_at (w ∷ ws) (bit_of b + 2 * k) ≡ put (set_at ws k) w b
unfolding set_at
at_bit ws w b k =
    let bit : nat_eq ((bit_of b + 2 * k) % 2) 1 ≡ b = ap (λ n. nat_eq n 1) (rest_bit b k) ∙ test_bit b in
    rw (half_bit b k, bit) refl

one_term : (f : Wires → ℕ) → sum_below (λ k. f (set_at [] k)) 1 ≡ f no_wires
unfolding set_at
one_term f = omega arith

pub sum_below-set_at : (ws : List Wire) (f : Wires → ℕ) → Distinct ws
    → sum_below (λ k. f (set_at ws k)) (2 ^ length ws) ≡ total ws f no_wires
sum_below-set_at [] f d = one_term f
sum_below-set_at (w ∷ ws) f d =
    ap (sum_below (λ k. f (set_at (w ∷ ws) k))) (pow-succ' 2 (length ws))
    ∙ sum_below-pairs (λ k. f (set_at (w ∷ ws) k)) (2 ^ length ws)
    ∙ sum_below-same _ _ (2 ^ length ws) (λ k h.
    let a = ap f (at_bit ws w false k) in
    let b = ap f (at_bit ws w true k) in
    rw (a, b) refl)
    ∙ sum_below-set_at ws (λ x. f (put x w false) + f (put x w true)) d.1
    ∙ total-plus ws (λ x. f (put x w false)) (λ x. f (put x w true)) no_wires
    ∙ (let p = total-put ws w false f no_wires d.0 in let q = total-put ws w true f no_wires d.0 in rw (p, q) refl)
