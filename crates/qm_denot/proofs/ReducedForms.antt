-- Each circuit has a reduced form: its amplitudes are divided by root2 as long as all of them can be
use Rattle.std.proofs.Common.{◌≡◌, ◌≢◌, ℕ, zero, suc, inl, inr, refl, sym, ap, subst, ◌∙◌}
use Rattle.qm_zomega.specs.Numbers.{zero_number, root2_of, root2_times, IsDivisible}
use Rattle.qm_zomega.proofs.Laws.{zero_or_not, divisible_or_not, IsDivisible-zero}
use Rattle.qm_zomega.proofs.Laws.Powers.{root2_times-zero, root2_times-injective, root2_times_swap}
use Rattle.qm_denot.specs.Circuits.{Amplitudes, Circuit, amp, halvings}
use Rattle.qm_denot.specs.ReducedForms.{ReducedFormLaw}
use Rattle.qm_denot.specs.Stores.{IsReducedForm}
use Rattle.qm_denot.specs.Weights.{names}
use Rattle.qm_denot.specs.Wires.{Wires}
use Rattle.qm_denot.proofs.Searches.{Decided, search, nonzero_of}
use Rattle.qm_denot.proofs.Unique.{one_form}

module _ (c : Circuit) where
  -- f over root2^k are the amplitudes of the circuit
  abbrev Are : Amplitudes → ℕ → Type 0
  Are f k = (x : Wires) → root2_times (halvings c) (f x) ≡ root2_times k (amp c x)

  -- where the amplitude is zero, so is the number
  pub zero_there : (f : Amplitudes) (k : ℕ) → Are f k → (x : Wires) → amp c x ≡ zero_number → f x ≡ zero_number
  zero_there f k are x none =
      root2_times-injective (halvings c) (f x) zero_number
      (are x ∙ ap (root2_times k) none ∙ root2_times-zero k ∙ sym (root2_times-zero (halvings c)))

  odd_or_not : (f : Amplitudes) (x : Wires) → Decided (¬ IsDivisible (f x))
  odd_or_not f x = elim (divisible_or_not (f x)) [ inl even ↦ inr (λ odd. odd even) | inr odd ↦ inl odd ]

  -- all numbers are divisible where those of sets of the circuit's wires are
  all_even : (f : Amplitudes) (k : ℕ) → Are f k → ((x : Wires) → amp c x ≢ zero_number → ¬ (¬ IsDivisible (f x))) → (x : Wires) → IsDivisible (f x)
  all_even f k are none x = elim (zero_or_not (amp c x)) [
    | inl e ↦ subst IsDivisible (sym (zero_there f k are x e)) IsDivisible-zero
    | inr some ↦ elim (divisible_or_not (f x)) [ inl even ↦ even | inr odd ↦ absurd (none x some odd) ]
  ]

  -- half of them
  halved : (f g : Amplitudes) (k : ℕ) → Are f (suc k) → ((x : Wires) → root2_of (g x) ≡ f x) → Are g k
  halved f g k are half x =
      root2_times-injective 1 (root2_times (halvings c) (g x)) (root2_times k (amp c x))
      (root2_times_swap 1 (halvings c) (g x) ∙ ap (root2_times (halvings c)) (half x) ∙ are x)

  reduce : (k : ℕ) (f : Amplitudes) → Are f k → (g : Amplitudes) × (m : ℕ) × IsReducedForm g m c
  reduce zero f are = (f, 0, record { equal = are; reduced = inl refl })
  reduce (suc k) f are = elim (search (λ x. ¬ IsDivisible (f x)) (odd_or_not f) (names c)) [
    | inl (x, odd) ↦ (f, suc k, record { equal = are; reduced = inr (x, odd) })
    | inr none ↦
        let even = all_even f (suc k) are (λ x some. none x (nonzero_of c x some)) in
        reduce k (λ x. (even x).0) (halved f (λ x. (even x).0) k are (λ x. (even x).1))
  ]

  pub reduced_form : (g : Amplitudes) × (m : ℕ) × IsReducedForm g m c
  reduced_form = reduce (halvings c) (amp c) (λ x. refl)

pub reduced_form_law : ReducedFormLaw
reduced_form_law c =
    let r = reduced_form c in
    record { numbers = r.0; exponent = r.1; form = r.2; only = λ f k form. one_form f r.0 k r.1 c form r.2 }
