-- Each test of an event fails or doesn't
use mathlib.Core.Path.{fun_ext}
use Rattle.std.proofs.Common.{◌≡◌, ◌≢◌, ℕ, ◌<◌, ◌^◌, ◌⊎◌, Bool, true, false, List, [], ◌∷◌, ℤ, inl, inr, refl, sym, ap, ap₂, subst, ◌∙◌, arith}
use Rattle.std.specs.Prelude.{unsigned_abs}
use Rattle.std.proofs.lemmas.Bool.{cases_lt}
use Rattle.qm_zomega.specs.Numbers.{Number, zero_number, ◌⊕◌, ◌⊖◌}
use Rattle.qm_zomega.specs.Range.{IsInRange, FitsZw}
use Rattle.qm_zomega.proofs.Laws.{zero_or_not, FitsZw-zero}
use Rattle.qm_zomega.proofs.Laws.Ring.{plus-zero, minus-zero}
use Rattle.qm_denot.specs.declared.Wire.{Wire}
use Rattle.qm_denot.specs.Circuits.{Amplitudes, Circuit, amp}
use Rattle.qm_denot.specs.Stores.{IsReducedForm, LeavesRange}
use Rattle.qm_denot.specs.Weights.{names}
use Rattle.qm_denot.specs.Wires.{Wires, has, put, is_wire}
use Rattle.qm_denot.proofs.NameLists.{other_from_is}
use Rattle.qm_denot.proofs.Sets.{same_from_is, has-put_other}
use Rattle.qm_denot.proofs.Unique.{one_form}
use Rattle.qm_proto.specs.declared.Cause.{Cause}
use Rattle.qm_proto.specs.declared.Check.{Check}
use Rattle.qm_proto.specs.declared.Check.TheVariants.{Possible, Zero, Equal, Fits}
use Rattle.qm_proto.specs.Model.Runs.{Fails, FirstFails, NoneFails, cause_of}
use Rattle.qm_denot.proofs.Searches.{Decided, IsOf, search, nonzero_of, some_amplitude}
use Rattle.qm_denot.proofs.ReducedForms.{zero_there, reduced_form}

same_bits : (a b : Bool) → Decided (a ≡ b)
same_bits true true = inl refl
same_bits false false = inl refl
same_bits true false = inr (λ e. let k : ⊥ = cc in k)
same_bits false true = inr (λ e. let k : ⊥ = cc in k)

negated : {A : Type 0} → Decided A → Decided (¬ A)
negated (inl h) = inr (λ n. n h)
negated (inr h) = inl h

both : {A B : Type 0} → Decided A → Decided B → Decided (A × B)
both (inl a) (inl b) = inl (a, b)
both (inl a) (inr b) = inr (λ h. b h.1)
both (inr a) d = inr (λ h. a h.0)

-- ---- numbers in the range
in_range_or_not : (x : ℤ) → Decided (IsInRange x)
in_range_or_not x = elim (cases_lt (unsigned_abs x) (2 ^ 127)) [
  | inl within ↦ inl within
  | inr past ↦ inr (λ (within : unsigned_abs x < 2 ^ 127). omega (arith, past))
]

fits_or_not : (z : Number) → Decided (FitsZw z)
fits_or_not z =
    elim (both (in_range_or_not z.a) (both (in_range_or_not z.b) (both (in_range_or_not z.c) (in_range_or_not z.d)))) [
      | inl (a, (b, (c, d))) ↦ inl (record { a_fits = a; b_fits = b; c_fits = c; d_fits = d })
      | inr h ↦ inr (λ (f : FitsZw z). h (f.a_fits, (f.b_fits, (f.c_fits, f.d_fits))))
    ]

-- ---- whether a `Had` fits
module _ (g : Circuit) (w : Wire) (u : Amplitudes) (k : ℕ) (form : IsReducedForm u k g) where
  abbrev Leaves : Wires → Type 0
  Leaves x = (has x w ≡ false) × (¬ (FitsZw (u x ⊕ u (put x w true)) × FitsZw (u x ⊖ u (put x w true))))

  leaves_or_not : (x : Wires) → Decided (Leaves x)
  leaves_or_not x =
      both (same_bits (has x w) false) (negated (both (fits_or_not (u x ⊕ u (put x w true))) (fits_or_not (u x ⊖ u (put x w true)))))

  some_there : (x : Wires) → u x ≢ zero_number → amp g x ≢ zero_number
  some_there x some none = some (zero_there g u k form.equal x none)

  -- a set without w has wires of the circuit alone where the set with w has
  of_before : (x : Wires) → has x w ≡ false → IsOf (names g) (put x w true) → IsOf (names g) x
  of_before x out of v lacks = by_is (is_wire v w) refl
    where
      by_is : (b : Bool) → is_wire v w ≡ b → has x v ≡ false
      by_is true e = ap (has x) (same_from_is v w e) ∙ out
      by_is false e = sym (has-put_other x w true v (other_from_is v w e)) ∙ of v lacks

  -- two zeros fit
  zeros_fit : (y z : Number) → y ≡ zero_number → z ≡ zero_number → FitsZw (y ⊕ z) × FitsZw (y ⊖ z)
  zeros_fit y z a b = (
    subst FitsZw (sym (ap₂ (λ m n. m ⊕ n) a b ∙ plus-zero zero_number)) FitsZw-zero,
    subst FitsZw (sym (ap₂ (λ m n. m ⊖ n) a b ∙ minus-zero zero_number)) FitsZw-zero,
  )

  none_leaves : ((x : Wires) → IsOf (names g) x → ¬ Leaves x) → ¬ LeavesRange u w
  none_leaves none (x, out, leaves) = elim (zero_or_not (u x)) [
    | inr some ↦ none x (nonzero_of g x (some_there x some)) (out, leaves)
    | inl e ↦ elim (zero_or_not (u (put x w true))) [
      | inr some ↦ none x (of_before x out (nonzero_of g (put x w true) (some_there (put x w true) some))) (out, leaves)
      | inl f ↦ leaves (zeros_fit (u x) (u (put x w true)) e f)
    ]
  ]

  had_fails_or_not : Decided (Fails g (Fits w))
  had_fails_or_not = elim (search Leaves leaves_or_not (names g)) [
    | inl (x, h) ↦ inl (u, k, form, (x, h.0, h.1))
    | inr none ↦ inr (λ (v, m, other, leaves).
        let same = one_form v u m k g other form in
        none_leaves none (subst (λ (f : Amplitudes). LeavesRange f w) (fun_ext same.1) leaves))
  ]

-- ---- each test
pub test_fails_or_not : (g : Circuit) (k : Check) → Decided (Fails g k)
test_fails_or_not g (Possible w m) = elim (some_amplitude g (λ x. has x w ≡ m) (λ x. same_bits (has x w) m)) [
  | inl (x, is, some) ↦ inr (λ all. some (all x is))
  | inr none ↦ inl none
]
test_fails_or_not g (Zero w) = elim (some_amplitude g (λ x. has x w ≡ true) (λ x. same_bits (has x w) true)) [
  | inl found ↦ inl found
  | inr none ↦ inr (λ (x, is, some). some (none x is))
]
test_fails_or_not g (Equal w v) = elim (some_amplitude g (λ x. has x w ≢ has x v) (λ x. negated (same_bits (has x w) (has x v)))) [
  | inl found ↦ inl found
  | inr none ↦ inr (λ (x, is, some). some (none x is))
]
test_fails_or_not g (Fits w) = let r = reduced_form g in had_fails_or_not g w r.0 r.1 r.2

-- none fails, or the first that fails has a cause
pub tests_fail_or_not : (g : Circuit) (ks : List Check) → NoneFails g ks ⊎ ((c : Cause) × FirstFails g ks c)
tests_fail_or_not g [] = inl tt
tests_fail_or_not g (k ∷ ks) = elim (test_fails_or_not g k) [
  | inl fails ↦ inr (cause_of k, inl (fails, refl))
  | inr not ↦ elim (tests_fail_or_not g ks) [ inl none ↦ inl (not, none) | inr (c, first) ↦ inr (c, inr (not, first)) ]
]
