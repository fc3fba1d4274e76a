-- A store that holds what a letter makes of another store's numbers stands for the circuit with that letter
use Rattle.std.proofs.Common.{◌≡◌, ℕ, ◌+◌, true, add-zero, add_comm, [], ◌∷◌, ◌++◌, sym, ap, ◌∙◌, arith, Contains}
use mathlib.Core.Path.{fun_ext}
use Rattle.qm_zomega.specs.Numbers.{zero_number, root2_times}
use Rattle.qm_zomega.proofs.Laws.Powers.{root2_times-zero, root2_times-more, root2_times-injective}
use Rattle.qm_denot.specs.declared.Wire.{Wire}
use Rattle.qm_denot.specs.declared.Letter.{Letter}
use Rattle.qm_denot.specs.Wires.{Wires, has}
use Rattle.qm_denot.specs.Circuits.{Amplitudes, Circuit, with_letter, amp, halves_of, halvings}
use Rattle.qm_denot.specs.Stores.{Store, StandsFor, IsReduced}
use Rattle.qm_denot.proofs.Amplitudes.{amp-push, halvings-append}
use Rattle.qm_denot.proofs.Linear.{scaled, with_letter-scaled}

module _ (c : Circuit) (l : Letter) (f g : Amplitudes) (k m : ℕ)
    (stood : (x : Wires) → root2_times (halvings c) (f x) ≡ root2_times k (amp c x))
    (made : (x : Wires) → root2_times (k + halves_of l) (g x) ≡ root2_times m (with_letter l f x)) where
  all_alike : scaled (halvings c) f ≡ scaled k (amp c)
  all_alike = fun_ext stood

  pub equal_after : (x : Wires) → root2_times (halvings (c ++ l ∷ [])) (g x) ≡ root2_times m (amp (c ++ l ∷ []) x)
  equal_after x =
      let e = halvings c in
      let d = halves_of l in
      let sum : halvings (c ++ l ∷ []) ≡ e + d = halvings-append c (l ∷ []) ∙ ap (λ n. e + n) (add-zero d) in
      let u = with_letter l (amp c) x in
      let first : root2_times (k + (e + d)) (g x) ≡ root2_times e (root2_times m (with_letter l f x)) =
      let n : k + (e + d) ≡ e + (k + d) = omega arith in
      rw n (root2_times-more e (k + d) (g x) ∙ ap (root2_times e) (made x)) in
      let second : root2_times e (root2_times m (with_letter l f x)) ≡ root2_times m (root2_times e (with_letter l f x)) =
      sym (root2_times-more e m _) ∙ ap (λ n. root2_times n (with_letter l f x)) (add_comm e m) ∙ root2_times-more m e _ in
      let third : root2_times e (with_letter l f x) ≡ root2_times k u =
      sym (with_letter-scaled l e f x) ∙ ap (λ (h : Amplitudes). with_letter l h x) all_alike ∙ with_letter-scaled l k (amp c) x in
      let fourth : root2_times m (root2_times k u) ≡ root2_times k (root2_times m u) =
      sym (root2_times-more m k u) ∙ ap (λ n. root2_times n u) (add_comm m k) ∙ root2_times-more k m u in
      let last : root2_times m u ≡ root2_times m (amp (c ++ l ∷ []) x) = ap (root2_times m) (sym (amp-push c l x)) in
      rw sum (root2_times-injective k _ _ (sym (root2_times-more k (e + d) (g x)) ∙ first ∙ second ∙ ap (root2_times m) third ∙ fourth) ∙ last)

-- a store whose numbers are zero wherever a wire that isn't live is one, and that has what a letter makes of the numbers of a store that stood for C
pub stands_after : (s t : Store) (c : Circuit) (l : Letter) → StandsFor s c
    → ((x : Wires) → root2_times (s.exponent + halves_of l) (t.value x) ≡ root2_times t.exponent (with_letter l s.value x))
    → IsReduced t.value t.exponent
    → ((x : Wires) (w : Wire) → (Contains t.live w → ⊥) → has x w ≡ true → t.value x ≡ zero_number)
    → StandsFor t (c ++ l ∷ [])
stands_after s t c l stood made reduced outside =
    let equal : (x : Wires) → root2_times (halvings (c ++ l ∷ [])) (t.value x) ≡ root2_times t.exponent (amp (c ++ l ∷ []) x) =
    equal_after c l s.value t.value s.exponent t.exponent stood.form.equal made in
    record {
      form = record { equal = equal; reduced = reduced };
      blank = λ w dead x one.
          root2_times-injective t.exponent _ _ (sym (equal x) ∙ ap (root2_times (halvings (c ++ l ∷ []))) (outside x w dead one) ∙ root2_times-zero (halvings (c ++ l ∷ [])) ∙ sym (root2_times-zero t.exponent));
    }
