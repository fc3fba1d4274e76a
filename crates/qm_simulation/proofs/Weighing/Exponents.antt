-- A small exponent leaves room for a Hadamard gate, since the weight bounds each norm
use mathlib.Core.Path.{fun_ext}
use Rattle.std.proofs.Common.{◌≡◌, ℕ, ◌+◌, ◌*◌, ◌^◌, ◌<◌, ◌≤◌, true, false, List, [], ◌∷◌, ◌++◌, inl, inr, refl, sym, ap, ap₂, subst, ◌∙◌, arith}
use Rattle.std.proofs.Math.Nat.{mul-le-mul_left, le_of_mul-le-mul_left, pow-le-pow_right}
use Rattle.std.proofs.lemmas.Nat.{pow-add, pow_pos}
use Rattle.qm_zomega.specs.Numbers.{Number, norm, root2_times, ◌⊕◌, ◌⊖◌}
use Rattle.qm_zomega.specs.Range.{FitsZw}
use Rattle.qm_zomega.proofs.Laws.{norm-zero, norm-root2_times, zero_or_not, fits_where_norm_below}
use Rattle.qm_zomega.proofs.Laws.Powers.{root2_times-add, root2_times-sub}
use Rattle.qm_denot.specs.declared.Letter.TheVariants.{Had}
use Rattle.qm_denot.specs.declared.Wire.{Wire}
use Rattle.qm_denot.specs.Circuits.{Amplitudes, Circuit, amp, halvings}
use Rattle.qm_denot.specs.Stores.{IsReducedForm, LeavesRange}
use Rattle.qm_denot.specs.Weights.{weight, names}
use Rattle.qm_denot.specs.Wires.{Wires, no_wires, has, put}
use Rattle.qm_denot.proofs.Amplitudes.{amp-push}
use Rattle.qm_denot.proofs.Sets.{has-no_wires, has-put_same, put_twice, put_has}
use Rattle.qm_denot.proofs.Totals.{term_below_total}
use Rattle.qm_denot.proofs.Unique.{one_form}
use Rattle.qm_denot.proofs.Weights.{weight-push_unitary}
use Rattle.qm_proto.specs.declared.Cause.TheVariants as cause
use Rattle.qm_proto.specs.declared.Check.{Check}
use Rattle.qm_proto.specs.declared.Check.TheVariants.{Possible, Zero, Equal, Fits}
use Rattle.qm_proto.specs.Model.Runs.{FirstFails, row_next, row_checks}
use Rattle.qm_proto.specs.Model.Schedules.{replay}
use Rattle.qm_simulation.specs.Following.Deciding.{outcomes_done}
use Rattle.qm_simulation.specs.Weighing.Exponents.{ExponentLaw}
use Rattle.qm_denot.proofs.Searches.{nonzero_of}
use Rattle.qm_simulation.proofs.Weighing.Weights.{weight_law}

-- the norm of an amplitude is at most the weight
norm_below : (c : Circuit) (x : Wires) → norm (amp c x) ≤ weight c
norm_below c x = elim (zero_or_not (amp c x)) [
  | inl none ↦ let e : norm (amp c x) ≡ 0 = ap norm none ∙ norm-zero in omega arith
  | inr some ↦ term_below_total (names c) (λ y. norm (amp c y)) no_wires x (λ w l. nonzero_of c x some w l ∙ sym (has-no_wires w))
]

module _ (g : Circuit) (n k : ℕ) (small : k ≤ n + 252) (few : weight g * 2 ^ n ≤ 2 ^ halvings g) (w : Wire) where
  -- a number of the form that a `Had` would leave
  small_norm : (v : Number) (z : Wires) → root2_times (halvings g) v ≡ root2_times k (amp (g ++ Had w ∷ []) z) → norm v < 2 ^ 254
  small_norm v z same =
      let e = halvings g in
      let a = norm v in
      let b = norm (amp (g ++ Had w ∷ []) z) in
      let equal : 2 ^ e * a ≡ 2 ^ k * b = sym (norm-root2_times e v) ∙ ap norm same ∙ norm-root2_times k (amp (g ++ Had w ∷ []) z) in
      let doubled : weight (g ++ Had w ∷ []) ≡ 2 ^ 1 * weight g = weight-push_unitary g (Had w) tt in
      let one : b ≤ 2 * weight g = let below = norm_below (g ++ Had w ∷ []) z in omega arith in
      let two : 2 ^ k * b ≤ 2 ^ k * (2 * weight g) = mul-le-mul_left (2 ^ k) one in
      let three : 2 ^ n * (2 ^ e * a) ≤ 2 ^ n * (2 ^ k * (2 * weight g)) = mul-le-mul_left (2 ^ n) (let h : 2 ^ e * a ≤ 2 ^ k * (2 * weight g) = omega arith in h) in
      let four : (2 ^ k * 2) * (weight g * 2 ^ n) ≤ (2 ^ k * 2) * 2 ^ e = mul-le-mul_left (2 ^ k * 2) few in
      let five : 2 ^ e * (2 ^ n * a) ≤ 2 ^ e * (2 ^ k * 2) = joined (2 ^ n) (2 ^ e) a (2 ^ k) (weight g) three four in
      let six : 2 ^ n * a ≤ 2 ^ k * 2 = le_of_mul-le-mul_left five (pow_pos e) in
      let seven : 2 ^ k ≤ 2 ^ (n + 252) = pow-le-pow_right (let two : 0 < 2 = omega arith in two) small in
      let eight : 2 ^ (n + 252) ≡ 2 ^ n * 2 ^ 252 = pow-add 2 n 252 in
      let nine : 2 ^ n * a ≤ 2 ^ n * (2 ^ 252 * 2) = omega arith in
      let ten : a ≤ 2 ^ 252 * 2 = le_of_mul-le-mul_left nine (pow_pos n) in
      omega arith
    where
      joined : (n e a k w : ℕ) → n * (e * a) ≤ n * (k * (2 * w)) → (k * 2) * (w * n) ≤ (k * 2) * e → e * (n * a) ≤ e * (k * 2)
      joined n e a k w h j = omega arith

  module _ (u : Amplitudes) (form : IsReducedForm u k g) (x : Wires) (out : has x w ≡ false) where
    abbrev y : Wires
    y = put x w true

    at_x : root2_times (halvings g) (u x ⊕ u y) ≡ root2_times k (amp (g ++ Had w ∷ []) x)
    at_x =
        root2_times-add (halvings g) (u x) (u y) ∙ ap₂ (λ p q. p ⊕ q) (form.equal x) (form.equal y) ∙ sym (root2_times-add k (amp g x) (amp g y))
        ∙ ap (root2_times k) (sym (amp-push g (Had w) x ∙ rw out refl))

    at_y : root2_times (halvings g) (u x ⊖ u y) ≡ root2_times k (amp (g ++ Had w ∷ []) y)
    at_y =
        let there : has y w ≡ true = has-put_same x w true in
        let back : put y w false ≡ x = put_twice x w true false ∙ put_has x w false out in
        root2_times-sub (halvings g) (u x) (u y) ∙ ap₂ (λ p q. p ⊖ q) (form.equal x) (form.equal y) ∙ sym (root2_times-sub k (amp g x) (amp g y))
        ∙ ap (root2_times k) (ap (λ z. amp g z ⊖ amp g y) (sym back) ∙ sym (amp-push g (Had w) y ∙ rw there refl))

    both_fit : FitsZw (u x ⊕ u y) × FitsZw (u x ⊖ u y)
    both_fit = (fits_where_norm_below (u x ⊕ u y) (small_norm (u x ⊕ u y) x at_x), fits_where_norm_below (u x ⊖ u y) (small_norm (u x ⊖ u y) y at_y))

-- a list of tests whose first failing one is that of a `Had`
overflows : (g : Circuit) (u : Amplitudes) (k : ℕ) → IsReducedForm u k g → ((w : Wire) → ¬ LeavesRange u w) → (ks : List Check) → ¬ FirstFails g ks cause.Overflow
overflows g u k form fits [] h = h
overflows g u k form fits (c ∷ ks) (inr h) = overflows g u k form fits ks h.1
overflows g u k form fits (Possible w m ∷ ks) (inl h) = let e = h.1 in cc
overflows g u k form fits (Zero w ∷ ks) (inl h) = let e = h.1 in cc
overflows g u k form fits (Equal w v ∷ ks) (inl h) = let e = h.1 in cc
overflows g u k form fits (Fits w ∷ ks) (inl h) =
    let other = h.0 in
    let same = one_form other.0 u other.1 k g other.2 form in
    fits w (subst (λ (f : Amplitudes). LeavesRange f w) (fun_ext same.1) other.3)

pub exponent_law : ExponentLaw
exponent_law p schedule run u k form small =
    let g = (replay p schedule).circuit in
    let few = (weight_law p schedule run).few in
    let fits : (w : Wire) → ¬ LeavesRange u w = λ w (x, out, leaves). leaves (both_fit g (outcomes_done p schedule) k small few w u form x out) in
    record { fits = fits; allowed = λ r. overflows g u k form fits (row_checks (row_next p (replay p schedule).tables r)) }
