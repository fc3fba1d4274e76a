-- What the letters that keep the live wires make of the values, from what their rules make of the numbers
use Rattle.std.proofs.Common.{◌≡◌, ◌≢◌, ℕ, ◌+◌, ◌<◌, ◌^◌, Bool, true, false, not, cond, ◌&&◌, List, length, refl, sym, ap, subst, ◌∙◌}
use Rattle.qm_zomega.specs.declared.Zw.{Zw}
use Rattle.qm_zomega.specs.Numbers.{Number, zero_number, ◌⊕◌, ◌⊖◌, negative, omega_times, IsDivisible}
use Rattle.qm_zomega.proofs.Laws.Ring.{plus-zero, minus-zero, negative-zero}
use Rattle.qm_zomega.proofs.Laws.Powers.{omega_times-zero}
use Rattle.qm_zomega.proofs.Laws.Divisible.{IsDivisible-omega, IsDivisible-negative}
use Rattle.qm_denot.specs.declared.Wire.{Wire}
use Rattle.qm_denot.specs.declared.Letter.{Letter}
use Rattle.qm_denot.specs.declared.Letter.TheVariants.{Phase, Flip, Had, Cx, Cz, Keep}
use Rattle.qm_denot.specs.Wires.{Wires, has, put, toggled}
use Rattle.qm_denot.specs.WireLists.{Distinct}
use Rattle.qm_denot.specs.Circuits.{Amplitudes, with_letter, same_bit, halves_of}
use Rattle.qm_denot.specs.Stores.{live_after}
use Rattle.qm_denot.specs.Places.{has_place, set_place, index_of, is_within, IsFirstAt}
use Rattle.qm_denot.specs.ListStores.{listed_value, listed_store, Does}
use Rattle.qm_denot.specs.LettersByPlace.{phase_at, flip_at, cross_at, sign_at, keep_at, had_at}
use Rattle.qm_zomega.specs.NumberLists.{number_at, IsListOf, Reduces}
use Rattle.qm_denot.specs.Sound.{Keeps}
use Rattle.qm_denot.proofs.Sets.{has-put_other}
use Rattle.qm_denot.proofs.PlaceLaws.{has-index, index-put, index_below, within-put}
use Rattle.qm_denot.proofs.ReducedLaws.{Reduces-itself}
use Rattle.qm_denot.proofs.PlainLaws.{keeps, reduced_list, does_letter, value_divisible, over_from_all}
use Rattle.qm_denot.proofs.Inverses.{toggled_twice}

-- ---- inside the live wires the rule of the letter, outside zero
phase_inside : (b h : Bool) (k : ℕ) (z : Number) → cond b (cond h (omega_times k z) z) zero_number ≡ cond h (omega_times k (cond b z zero_number)) (cond b z zero_number)
phase_inside true h k z = refl
phase_inside false true k z = sym (omega_times-zero k)
phase_inside false false k z = refl

cz_inside : (b h : Bool) (z : Number) → cond b (cond h (negative z) z) zero_number ≡ cond h (negative (cond b z zero_number)) (cond b z zero_number)
cz_inside true h z = refl
cz_inside false true z = sym negative-zero
cz_inside false false z = refl

choice_inside : (b h : Bool) (y z : Number) → cond b (cond h y z) zero_number ≡ cond h (cond b y zero_number) (cond b z zero_number)
choice_inside true h y z = refl
choice_inside false true y z = refl
choice_inside false false y z = refl

keep_inside : (b h : Bool) (z : Number) → cond b (cond h z zero_number) zero_number ≡ cond h (cond b z zero_number) zero_number
keep_inside true h z = refl
keep_inside false true z = refl
keep_inside false false z = refl

had_inside : (b h : Bool) (low z high : Number) → cond b (cond h (low ⊖ z) (z ⊕ high)) zero_number
    ≡ cond h (cond b low zero_number ⊖ cond b z zero_number) (cond b z zero_number ⊕ cond b high zero_number)
had_inside true h low z high = refl
had_inside false true low z high = sym (minus-zero zero_number)
had_inside false false low z high = sym (plus-zero zero_number)

module _ (live : List Wire) (zs made : List Zw) (distinct : Distinct live) (size : length zs ≡ 2 ^ length live) where
  index_within : (x : Wires) → index_of live x < length zs
  index_within x = subst (λ n. index_of live x < n) (sym size) (index_below live x)

  -- the number of x in a list of the same size
  number_made : (g : ℕ → Number) → IsListOf made (length zs) g → (x : Wires) → number_at made (index_of live x) ≡ g (index_of live x)
  number_made g done x = done.numbers (index_of live x) (index_within x)

  -- the number of x with a wire put in or out
  number-put : (p : ℕ) (w : Wire) (x : Wires) (b : Bool) → IsFirstAt live p w → number_at zs (set_place p b (index_of live x)) ≡ number_at zs (index_of live (put x w b))
  number-put p w x b at = ap (number_at zs) (sym (index-put live p w x b distinct at))

  number-toggled : (p : ℕ) (w : Wire) (x : Wires) → IsFirstAt live p w
      → number_at zs (set_place p (not (has_place p (index_of live x))) (index_of live x)) ≡ number_at zs (index_of live (toggled x w))
  number-toggled p w x at = ap (λ b. number_at zs (set_place p (not b) (index_of live x))) (has-index live p w x at) ∙ number-put p w x (not (has x w)) at

  -- what is put in or out does not change whether a set lies within
  value-put : (p : ℕ) (w : Wire) (x : Wires) (b : Bool) → IsFirstAt live p w → cond (is_within x live) (number_at zs (index_of live (put x w b))) zero_number ≡ listed_value live zs (put x w b)
  value-put p w x b at = ap (λ t. cond t (number_at zs (index_of live (put x w b))) zero_number) (sym (within-put live p w x b at))

  pub phase_value : (k p : ℕ) (w : Wire) → IsFirstAt live p w → IsListOf made (length zs) (phase_at k p (number_at zs)) → (x : Wires) → listed_value live made x ≡ with_letter (Phase k w) (listed_value live zs) x
  phase_value k p w at done x =
      let z = number_at zs (index_of live x) in
      ap (λ n. cond (is_within x live) n zero_number)
      (number_made (phase_at k p (number_at zs)) done x ∙ ap (λ b. cond b (omega_times k z) z) (has-index live p w x at))
      ∙ phase_inside (is_within x live) (has x w) k z

  pub flip_value : (p : ℕ) (w : Wire) → IsFirstAt live p w → IsListOf made (length zs) (flip_at p (number_at zs)) → (x : Wires) → listed_value live made x ≡ with_letter (Flip w) (listed_value live zs) x
  flip_value p w at done x =
      ap (λ n. cond (is_within x live) n zero_number) (number_made (flip_at p (number_at zs)) done x ∙ number-toggled p w x at)
      ∙ value-put p w x (not (has x w)) at

  pub cx_value : (p q : ℕ) (c t : Wire) → IsFirstAt live p c → IsFirstAt live q t → IsListOf made (length zs) (cross_at p q (number_at zs)) → (x : Wires) → listed_value live made x ≡ with_letter (Cx c t) (listed_value live zs) x
  cx_value p q c t at to done x =
      let z = number_at zs (index_of live x) in
      let y = number_at zs (index_of live (toggled x t)) in
      ap (λ n. cond (is_within x live) n zero_number)
      (number_made (cross_at p q (number_at zs)) done x
      ∙ ap (λ b. cond b (number_at zs (set_place q (not (has_place q (index_of live x))) (index_of live x))) z) (has-index live p c x at)
      ∙ ap (λ n. cond (has x c) n z) (number-toggled q t x to))
      ∙ choice_inside (is_within x live) (has x c) y z
      ∙ ap (λ n. cond (has x c) n (listed_value live zs x)) (value-put q t x (not (has x t)) to)

  pub cz_value : (p q : ℕ) (c t : Wire) → IsFirstAt live p c → IsFirstAt live q t → IsListOf made (length zs) (sign_at p q (number_at zs)) → (x : Wires) → listed_value live made x ≡ with_letter (Cz c t) (listed_value live zs) x
  cz_value p q c t at to done x =
      let z = number_at zs (index_of live x) in
      ap (λ n. cond (is_within x live) n zero_number)
      (number_made (sign_at p q (number_at zs)) done x
      ∙ ap (λ b. cond (b && has_place q (index_of live x)) (negative z) z) (has-index live p c x at)
      ∙ ap (λ b. cond (has x c && b) (negative z) z) (has-index live q t x to))
      ∙ cz_inside (is_within x live) (has x c && has x t) z

  pub keep_value : (p : ℕ) (w : Wire) (m : Bool) → IsFirstAt live p w → IsListOf made (length zs) (keep_at zero_number p m (number_at zs)) → (x : Wires) → listed_value live made x ≡ with_letter (Keep w m) (listed_value live zs) x
  keep_value p w m at done x =
      let z = number_at zs (index_of live x) in
      ap (λ n. cond (is_within x live) n zero_number)
      (number_made (keep_at zero_number p m (number_at zs)) done x ∙ ap (λ b. cond (same_bit b m) z zero_number) (has-index live p w x at))
      ∙ keep_inside (is_within x live) (same_bit (has x w) m) z

  -- what `Had` makes of the value of x, by the number at its index
  pub had_value : (p : ℕ) (w : Wire) → IsFirstAt live p w → (x : Wires) → cond (is_within x live) (had_at p (number_at zs) (index_of live x)) zero_number ≡ with_letter (Had w) (listed_value live zs) x
  had_value p w at x =
      let z = number_at zs (index_of live x) in
      let low = number_at zs (index_of live (put x w false)) in
      let high = number_at zs (index_of live (put x w true)) in
      ap (λ n. cond (is_within x live) n zero_number)
      (ap (λ b. cond b (number_at zs (set_place p false (index_of live x)) ⊖ z) (z ⊕ number_at zs (set_place p true (index_of live x)))) (has-index live p w x at)
      ∙ ap (λ n. cond (has x w) (n ⊖ z) (z ⊕ number_at zs (set_place p true (index_of live x)))) (number-put p w x false at)
      ∙ ap (λ n. cond (has x w) (low ⊖ z) (z ⊕ n)) (number-put p w x true at))
      ∙ had_inside (is_within x live) (has x w) low z high
      ∙ ap (λ n. cond (has x w) (n ⊖ listed_value live zs x) (listed_value live zs x ⊕ cond (is_within x live) high zero_number)) (value-put p w x false at)
      ∙ ap (λ n. cond (has x w) (listed_value live zs (put x w false) ⊖ listed_value live zs x) (listed_value live zs x ⊕ n)) (value-put p w x true at)

  pub value_had : (p : ℕ) (w : Wire) → IsFirstAt live p w → ((k : ℕ) → k < length zs → number_at made k ≡ had_at p (number_at zs) k)
      → (x : Wires) → listed_value live made x ≡ with_letter (Had w) (listed_value live zs) x
  value_had p w at numbers x = ap (λ n. cond (is_within x live) n zero_number) (numbers (index_of live x) (index_within x)) ∙ had_value p w at x

-- ---- where root2 divides what such a letter made, it divided what there was
abbrev pub DividesBefore : Letter → Type 0
DividesBefore l = (f : Amplitudes) → ((x : Wires) → IsDivisible (with_letter l f x)) → (x : Wires) → IsDivisible (f x)

not-not : (b : Bool) → not (not b) ≡ b
not-not true = refl
not-not false = refl

turned_before : (h : Bool) (k : ℕ) (z : Number) → IsDivisible (cond h (omega_times k z) z) → IsDivisible z
turned_before true k z d = (IsDivisible-omega k z).0 d
turned_before false k z d = d

pub phase_before : (k : ℕ) (w : Wire) → DividesBefore (Phase k w)
phase_before k w f all x = turned_before (has x w) k (f x) (all x)

pub flip_before : (w : Wire) → DividesBefore (Flip w)
flip_before w f all x = subst (λ y. IsDivisible (f y)) (toggled_twice x w) (all (toggled x w))

pub cx_before : (c t : Wire) → c ≢ t → DividesBefore (Cx c t)
cx_before c t ne f all x = by_control (has x c) refl
  where
    by_control : (b : Bool) → has x c ≡ b → IsDivisible (f x)
    by_control true one =
        let still : has (toggled x t) c ≡ true = has-put_other x t (not (has x t)) c ne ∙ one in
        subst (λ y. IsDivisible (f y)) (toggled_twice x t)
        (subst (λ b. IsDivisible (cond b (f (toggled (toggled x t) t)) (f (toggled x t)))) still (all (toggled x t)))
    by_control false none = subst (λ b. IsDivisible (cond b (f (toggled x t)) (f x))) none (all x)

negative_before : (h : Bool) (z : Number) → IsDivisible (cond h (negative z) z) → IsDivisible z
negative_before true z d = (IsDivisible-negative z).0 d
negative_before false z d = d

pub cz_before : (c t : Wire) → DividesBefore (Cz c t)
cz_before c t f all x = negative_before (has x c && has x t) (f x) (all x)

module _ (l : Letter) (live : List Wire) (k : ℕ) (zs made : List Zw) (size : length made ≡ 2 ^ length live) (kept : Keeps live zs k)
    (letter : (x : Wires) → listed_value live made x ≡ with_letter l (listed_value live zs) x) (before : DividesBefore l) where
  -- such a letter leaves a reduced vector
  pub keeps_turned : Keeps live made k
  keeps_turned = keeps live made k kept.distinct size (λ some all. kept.reduced some
      (over_from_all live (listed_value live zs) (before (listed_value live zs) (λ x. subst IsDivisible (letter x) (value_divisible live made all x)))))

  pub does_turned : (n : ℕ) → k + halves_of l ≡ k → live ≡ live_after l live → Does l (listed_store n live k zs) (listed_store n live k made)
  does_turned n none lives =
      does_letter l n live live k k zs made made keeps_turned lives (rw none (Reduces-itself made k (reduced_list live made k keeps_turned))) letter

module _ (l : Letter) (live : List Wire) (k m : ℕ) (zs made new : List Zw) (size : length made ≡ 2 ^ length live) (kept : Keeps live zs k)
    (letter : (x : Wires) → listed_value live made x ≡ with_letter l (listed_value live zs) x) (reduces : Reduces made (k + halves_of l) new m) where
  -- any other letter that keeps the live wires leaves what `reduce` makes of its numbers
  pub keeps_reduced : Keeps live new m
  keeps_reduced = keeps live new m kept.distinct (reduces.size ∙ size) reduces.reduced

  pub does_reduced : (n : ℕ) → live ≡ live_after l live → Does l (listed_store n live k zs) (listed_store n live m new)
  does_reduced n lives = does_letter l n live live k m zs made new keeps_reduced lives reduces letter
