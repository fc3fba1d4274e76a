-- A circuit has one reduced form
use Rattle.std.proofs.Common.{◌≡◌, ℕ, suc, ◌+◌, ◌-◌, ◌≤◌, ◌<◌, ◌⊎◌, inl, inr, sym, ap, ◌∙◌, add_comm, arith}
use Rattle.qm_zomega.specs.Numbers.{Number, root2_times, IsDivisible}
use Rattle.qm_denot.specs.Wires.{Wires}
use Rattle.qm_denot.specs.Circuits.{Amplitudes, Circuit, amp, halvings}
use Rattle.qm_denot.specs.Stores.{IsReducedForm, IsReduced}
use Rattle.qm_zomega.proofs.Laws.Powers.{root2_times-more, root2_times-injective}

order : (k m : ℕ) → (k ≡ m) ⊎ ((m < k) ⊎ (k < m))
order k m = grind arith

module _ (f g : Amplitudes) (k m : ℕ) (c : Circuit) (first : IsReducedForm f k c) (second : IsReducedForm g m c) where
  crossed : (x : Wires) → root2_times m (f x) ≡ root2_times k (g x)
  crossed x =
      let e = halvings c in
      let a = amp c x in
      let swap : (i j : ℕ) (z : Number) → root2_times i (root2_times j z) ≡ root2_times j (root2_times i z) =
      λ i j z. sym (root2_times-more i j z) ∙ ap (λ n. root2_times n z) (add_comm i j) ∙ root2_times-more j i z in
      root2_times-injective e _ _
      (swap e m (f x) ∙ ap (root2_times m) (first.equal x) ∙ swap m k a ∙ ap (root2_times k) (sym (second.equal x)) ∙ swap k e (g x))

  -- a larger exponent would leave every number divisible
  above : m < k → (x : Wires) → IsDivisible (f x)
  above h x =
      let n : k ≡ m + suc (k - m - 1) = omega arith in
      (root2_times (k - m - 1) (g x), sym (root2_times-injective m _ _ (crossed x ∙ ap (λ i. root2_times i (g x)) n ∙ root2_times-more m (suc (k - m - 1)) (g x))))

not_above : (f g : Amplitudes) (k m : ℕ) (c : Circuit) → IsReducedForm f k c → IsReducedForm g m c → m < k → ⊥
not_above f g k m c first second h = case first.reduced
  where
    case : IsReduced f k → ⊥
    case (inl e) = absurd (omega arith)
    case (inr (x, odd)) = odd (above f g k m c first second h x)

pub one_form : (f g : Amplitudes) (k m : ℕ) (c : Circuit) → IsReducedForm f k c → IsReducedForm g m c → (k ≡ m) × ((x : Wires) → f x ≡ g x)
one_form f g k m c first second = elim (order k m) [
  | inl e ↦ (e, λ x. root2_times-injective m _ _ (crossed f g k m c first second x ∙ ap (λ i. root2_times i (g x)) e))
  | inr o ↦ elim o [ inl h ↦ absurd (not_above f g k m c first second h) | inr h ↦ absurd (not_above g f m k c second first h) ]
]

at_most_or_above : (k m : ℕ) → (k ≤ m) ⊎ (m < k)
at_most_or_above k m = grind arith

-- the exponent of a reduced form is at most the number of halvings
pub exponent_at_most : (f : Amplitudes) (k : ℕ) (c : Circuit) → IsReducedForm f k c → k ≤ halvings c
exponent_at_most f k c form = elim (at_most_or_above k (halvings c)) [ inl le ↦ le | inr lt ↦ absurd (by_reduced lt form.reduced) ]
  where
    divided : halvings c < k → (x : Wires) → IsDivisible (f x)
    divided lt x =
        let n : k ≡ halvings c + suc (k - halvings c - 1) = omega arith in
        (root2_times (k - halvings c - 1) (amp c x), sym (root2_times-injective (halvings c) _ _ (form.equal x ∙ ap (λ i. root2_times i (amp c x)) n ∙ root2_times-more (halvings c) (suc (k - halvings c - 1)) (amp c x))))

    by_reduced : halvings c < k → IsReduced f k → ⊥
    by_reduced lt (inl e) = omega arith
    by_reduced lt (inr (x, odd)) = odd (divided lt x)
