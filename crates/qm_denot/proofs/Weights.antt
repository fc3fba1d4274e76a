-- The weight of a circuit, letter by letter
use Rattle.std.proofs.Common.{◌≡◌, ◌≢◌, ℕ, ◌+◌, ◌*◌, ◌^◌, ◌≤◌, ◌<◌, Bool, true, false, List, [], ◌∷◌, ◌++◌, refl, sym, ap, subst, ◌∙◌, arith, append_assoc, append-nil}
use Rattle.std.proofs.Math.Nat.{mul-le-mul_left, le_of_mul-le-mul_left}
use Rattle.std.proofs.lemmas.Nat.{pow-add, pow_pos}
use Rattle.qm_zomega.specs.Numbers.{zero_number, root2_times, norm}
use Rattle.qm_zomega.proofs.Laws.Norms.{norm-parallelogram, norm-omega, norm-zero, norm-negative, norm-root2_times, zero_where_norm-zero}
use Rattle.qm_denot.specs.declared.Wire.{Wire}
use Rattle.qm_denot.specs.declared.Letter.{Letter}
use Rattle.qm_denot.specs.declared.Letter.TheVariants.{Phase, Flip, Had, Cx, Cz, Pair, Keep, Take, Rename}
use Rattle.qm_denot.specs.Wires.{Wires, has, put, no_wires}
use Rattle.qm_denot.specs.Circuits.{Amplitudes, with_letter, halves_of, halvings, IsEqualUpTo, IsBlank, IsBlankIn, Circuit, amp}
use Rattle.qm_denot.specs.Weights.{total, operands, also, names, weight}
use Rattle.qm_denot.specs.CircuitFacts.{IsProper, AllProper, IsNonzero}
use Rattle.qm_denot.proofs.Sets.{has-put_same, has-put_other, put_twice, put_swap, has-no_wires, is_empty-no_wires}
use Rattle.qm_denot.proofs.NameLists.{not_sym, HasAll, Lacks-where_also, Distinct-also, Distinct-names, Lacks-where_names_append}
use Rattle.qm_denot.proofs.Totals.{total-same, total-plus, total-times, total-le_locally, total-same_locally, total-any, term_below_total, term_of_total}
use Rattle.qm_denot.proofs.Amplitudes.{amp-push}
use Rattle.qm_denot.proofs.Support.{IsBlank-unnamed}
use Rattle.qm_denot.proofs.Parities.{with_letter-take_blank}
use Rattle.qm_denot.proofs.Inverses.{IsUnitary, AllUnitary}
use Rattle.qm_denot.specs.WireLists.{Lacks, Distinct}

-- the sum of the norms over both choices of each operand
abbrev at_operands : Letter → Amplitudes → Wires → ℕ
at_operands l f y = total (operands l) (λ x. norm (f x)) y

swapped : (a b : Wire) → b ≢ a → (x : Wires) (s t : Bool) → put (put x b s) a t ≡ put (put x a t) b s
swapped a b ne x s t = put_swap x b a s t ne

module _ (f : Amplitudes) (y : Wires) where
  -- a unitary letter keeps the sum over its operands, and `Had` doubles it
  at_operands-unitary : (l : Letter) → IsUnitary l → at_operands l (with_letter l f) y ≡ 2 ^ halves_of l * at_operands l f y
  at_operands-unitary (Phase k w) u = simp (has-put_same, norm-omega) (omega arith)
  at_operands-unitary (Flip w) u = simp (has-put_same, put_twice) (omega arith)
  at_operands-unitary (Had w) u = simp (has-put_same, put_twice) (norm-parallelogram (f (put y w false)) (f (put y w true)))
  at_operands-unitary (Cx c t) u = let on = not_sym u in simp (has-put_same, has-put_other, put_twice) (omega arith)
  at_operands-unitary (Cz c t) u = let on = not_sym u in simp (has-put_same, has-put_other, norm-negative) (omega arith)
  at_operands-unitary (Pair a b) u = absurd u
  at_operands-unitary (Keep w m) u = absurd u
  at_operands-unitary (Take w m) u = absurd u
  at_operands-unitary (Rename a b) u = absurd u

  -- no letter makes the sum over its operands larger than this
  at_operands-le : (l : Letter) → IsProper l → at_operands l (with_letter l f) y ≤ 2 ^ halves_of l * at_operands l f y
  at_operands-le (Phase k w) p = let e = at_operands-unitary (Phase k w) tt in omega arith
  at_operands-le (Flip w) p = let e = at_operands-unitary (Flip w) tt in omega arith
  at_operands-le (Had w) p = let e = at_operands-unitary (Had w) tt in omega arith
  at_operands-le (Cx c t) p = let e = at_operands-unitary (Cx c t) (not_sym p.0.0) in omega arith
  at_operands-le (Cz c t) p = let e = at_operands-unitary (Cz c t) (not_sym p.0.0) in omega arith
  at_operands-le (Pair a b) p =
      let ne = p.0.0 in let on = not_sym ne in let swap = swapped a b ne in simp (has-put_same, has-put_other, swap, put_twice, norm-zero) (omega arith)
  at_operands-le (Keep w true) p = simp (has-put_same, norm-zero) (omega arith)
  at_operands-le (Keep w false) p = simp (has-put_same, norm-zero) (omega arith)
  at_operands-le (Take w true) p = simp (has-put_same, put_twice, norm-zero) (omega arith)
  at_operands-le (Take w false) p = simp (has-put_same, put_twice, norm-zero) (omega arith)
  at_operands-le (Rename a b) p =
      let ne = p.0.0 in let on = not_sym ne in let swap = swapped a b ne in simp (has-put_same, has-put_other, swap, put_twice, norm-zero) (omega arith)

  -- a wire that takes the place of a blank one keeps the sum, and a pair on blank wires doubles it
  module _ (a b : Wire) (ne : b ≢ a) (b_blank : IsBlankIn f b) where
    no_b : (t : Bool) → f (put (put y a t) b true) ≡ zero_number
    no_b t = b_blank _ (has-put_same (put y a t) b true)

    at_operands-rename : at_operands (Rename a b) (with_letter (Rename a b) f) y ≡ at_operands (Rename a b) f y
    at_operands-rename = let on = not_sym ne in let swap = swapped a b ne in simp (has-put_same, has-put_other, swap, put_twice, no_b, norm-zero) (omega arith)

    at_operands-pair : IsBlankIn f a → at_operands (Pair a b) (with_letter (Pair a b) f) y ≡ 2 * at_operands (Pair a b) f y
    at_operands-pair a_blank =
        let on = not_sym ne in
        let swap = swapped a b ne in
        let no_a : f (put (put y a true) b false) ≡ zero_number = a_blank _ (has-put_other (put y a true) b false a on ∙ has-put_same y a true) in
        simp (has-put_same, has-put_other, swap, put_twice, no_a, no_b, norm-zero) (omega arith)

-- ---- the weight of a circuit
-- the weight is the same sum over each list of different wires that has all names
pub weight-any : (c : Circuit) (ws : List Wire) → Distinct ws → HasAll ws (names c) → total ws (λ x. norm (amp c x)) no_wires ≡ weight c
weight-any c ws d all =
    total-any (names c) ws (λ x. norm (amp c x)) no_wires (Distinct-names c) d all
    (λ y w h e l. ap norm (IsBlank-unnamed c w l y h) ∙ norm-zero) (λ w e. has-no_wires w)

weight-empty : weight [] ≡ 1
unfolding amp norm
weight-empty = rw is_empty-no_wires refl

module _ (c : Circuit) (l : Letter) where
  before : total (names (c ++ l ∷ [])) (λ x. norm (amp c x)) no_wires ≡ weight c
  before = weight-any c (names (c ++ l ∷ [])) (Distinct-names (c ++ l ∷ [])) (λ w out. (Lacks-where_names_append c (l ∷ []) w out).0)

  after : weight (c ++ l ∷ []) ≡ total (names (c ++ l ∷ [])) (λ x. norm (with_letter l (amp c) x)) no_wires
  after = total-same (names (c ++ l ∷ [])) _ _ no_wires (λ x. ap norm (amp-push c l x))

  has_operands : HasAll (names (c ++ l ∷ [])) (operands l)
  has_operands w out = (Lacks-where_also [] (operands l) w (Lacks-where_names_append c (l ∷ []) w out).1).1

  -- a letter that multiplies the sum over its operands multiplies the weight
  weight-push_by : (k : ℕ) → ((y : Wires) → at_operands l (with_letter l (amp c)) y ≡ k * at_operands l (amp c) y)
      → weight (c ++ l ∷ []) ≡ k * weight c
  weight-push_by k same =
      after ∙ total-same_locally (names (c ++ l ∷ [])) (operands l) k _ _ no_wires (Distinct-names (c ++ l ∷ [])) has_operands same ∙ ap (λ n. k * n) before

  -- a proper letter makes the weight at most 2^h times as large, h being 1 for `Had` and `Pair`, and 0 else
  pub weight-push_le : IsProper l → weight (c ++ l ∷ []) ≤ 2 ^ halves_of l * weight c
  weight-push_le p =
      let k = 2 ^ halves_of l in
      let bound =
      total-le_locally (names (c ++ l ∷ [])) (operands l) k (λ x. norm (with_letter l (amp c) x)) (λ x. norm (amp c x)) no_wires
      (Distinct-names (c ++ l ∷ [])) has_operands (λ y. at_operands-le (amp c) y l p) in
      rw after (subst (λ n. total (names (c ++ l ∷ [])) (λ x. norm (with_letter l (amp c) x)) no_wires ≤ k * n) before bound)

  pub weight-push_unitary : IsUnitary l → weight (c ++ l ∷ []) ≡ 2 ^ halves_of l * weight c
  weight-push_unitary u = weight-push_by (2 ^ halves_of l) (λ y. at_operands-unitary (amp c) y l u)

-- renaming a wire to a blank one keeps the weight
pub weight-push_rename : (c : Circuit) (q f : Wire) → q ≢ f → IsBlank c f → weight (c ++ Rename q f ∷ []) ≡ weight c
weight-push_rename c q f ne blank = weight-push_by c (Rename q f) 1 (λ y. at_operands-rename (amp c) y q f (not_sym ne) blank ∙ once _) ∙ sym (once _)
  where
    once : (n : ℕ) → n ≡ 1 * n
    once n = omega arith

-- a pair on blank wires doubles the weight
pub weight-push_pair : (c : Circuit) (e f : Wire) → e ≢ f → IsBlank c e → IsBlank c f → weight (c ++ Pair e f ∷ []) ≡ 2 * weight c
weight-push_pair c e f ne e_blank f_blank = weight-push_by c (Pair e f) 2 (λ y. at_operands-pair (amp c) y e f (not_sym ne) f_blank e_blank)

-- ---- letter after letter
pushed : (c ls : List Letter) (l : Letter) → c ++ l ∷ ls ≡ (c ++ l ∷ []) ++ ls
pushed c ls l = sym (append_assoc c (l ∷ []) ls)

power_times : (h n w : ℕ) → 2 ^ n * (2 ^ h * w) ≡ 2 ^ (h + n) * w
power_times h n w = let p = pow-add 2 h n in rw p (omega arith)

pub weight-append_le : (c ls : List Letter) → AllProper ls → weight (c ++ ls) ≤ 2 ^ halvings ls * weight c
weight-append_le c [] p = let e = append-nil c in rw e (omega arith)
weight-append_le c (l ∷ ls) p =
    let rest = weight-append_le (c ++ l ∷ []) ls p.1 in
    let one = mul-le-mul_left (2 ^ halvings ls) (weight-push_le c l p.0) in
    let e = pushed c ls l in
    let t = power_times (halves_of l) (halvings ls) (weight c) in
    rw e (omega arith)

-- of a circuit of proper letters: the amplitudes, divided by root2 as often as halvings say, have norms that sum to at most 1
pub weight_le : (c : Circuit) → AllProper c → weight c ≤ 2 ^ halvings c
weight_le c p = let a = subst (λ n. weight c ≤ 2 ^ halvings c * n) weight-empty (weight-append_le [] c p) in omega arith

pub weight-append_unitary : (c ls : List Letter) → AllUnitary ls → weight (c ++ ls) ≡ 2 ^ halvings ls * weight c
weight-append_unitary c [] u = let e = append-nil c in rw e (omega arith)
weight-append_unitary c (l ∷ ls) u =
    let e = pushed c ls l in
    rw e (
    weight-append_unitary (c ++ l ∷ []) ls u.1
    ∙ ap (λ n. 2 ^ halvings ls * n) (weight-push_unitary c l u.0)
    ∙ power_times (halves_of l) (halvings ls) (weight c))

-- ---- circuits that are equal up to p
module _ (c m : Circuit) where
  joint : (d : Circuit) → HasAll (also (names c) (names m)) (names d) → total (also (names c) (names m)) (λ x. norm (amp d x)) no_wires ≡ weight d
  joint d all = weight-any d (also (names c) (names m)) (Distinct-also (names c) (names m) (Distinct-names c)) all

  scaled_total : (n : ℕ) (d : Circuit) → HasAll (also (names c) (names m)) (names d)
      → total (also (names c) (names m)) (λ x. norm (root2_times n (amp d x))) no_wires ≡ 2 ^ n * weight d
  scaled_total n d all =
      total-same (also (names c) (names m)) _ _ no_wires (λ x. norm-root2_times n (amp d x))
      ∙ total-times (also (names c) (names m)) (2 ^ n) (λ x. norm (amp d x)) no_wires
      ∙ ap (λ k. 2 ^ n * k) (joint d all)

  pub weight-equal_up_to : (p : ℕ) → IsEqualUpTo p c m → 2 ^ (halvings m + p) * weight c ≡ 2 ^ halvings c * weight m
  weight-equal_up_to p same =
      sym (scaled_total (halvings m + p) c (λ w l. (Lacks-where_also (names c) (names m) w l).0))
      ∙ total-same (also (names c) (names m)) _ _ no_wires (λ x. ap norm (same x))
      ∙ scaled_total (halvings c) m (λ w l. (Lacks-where_also (names c) (names m) w l).1)

  pub weight-same : ((x : Wires) → amp c x ≡ amp m x) → weight c ≡ weight m
  weight-same same =
      sym (joint c (λ w l. (Lacks-where_also (names c) (names m) w l).0))
      ∙ total-same (also (names c) (names m)) _ _ no_wires (λ x. ap norm (same x))
      ∙ joint m (λ w l. (Lacks-where_also (names c) (names m) w l).1)

-- giving up a blank wire keeps the amplitudes, so the weight too
amp-push_take_blank : (c : Circuit) (w : Wire) → IsBlank c w → (x : Wires) → amp (c ++ Take w false ∷ []) x ≡ amp c x
amp-push_take_blank c w blank x = amp-push c (Take w false) x ∙ ap (λ (f : Amplitudes). f x) (with_letter-take_blank (amp c) w blank)

pub weight-push_take_blank : (c : Circuit) (w : Wire) → IsBlank c w → weight (c ++ Take w false ∷ []) ≡ weight c
weight-push_take_blank c w blank = weight-same (c ++ Take w false ∷ []) c (amp-push_take_blank c w blank)

-- ---- both outcomes of a measurement that gives its wire up
names_either : (c : Circuit) (w : Wire) → names (c ++ Take w true ∷ []) ≡ names (c ++ Take w false ∷ [])
names_either [] w = refl
names_either (l ∷ ls) w = ap (λ ns. also ns (operands l)) (names_either ls w)

-- together they have the circuit's weight
pub weight-push_take_either : (c : Circuit) (w : Wire) → weight (c ++ Take w false ∷ []) + weight (c ++ Take w true ∷ []) ≡ weight c
weight-push_take_either c w =
    let ws = names (c ++ Take w false ∷ []) in
    let zero_there : Wires → ℕ = λ x. norm (with_letter (Take w false) (amp c) x) in
    let one_there : Wires → ℕ = λ x. norm (with_letter (Take w true) (amp c) x) in
    let locally : (y : Wires) → total (w ∷ []) (λ x. zero_there x + one_there x) y ≡ 1 * total (w ∷ []) (λ x. norm (amp c x)) y =
    λ y. simp (has-put_same, put_twice, norm-zero) (omega arith) in
    let both =
    total-same_locally ws (w ∷ []) 1 (λ x. zero_there x + one_there x) (λ x. norm (amp c x)) no_wires (Distinct-names (c ++ Take w false ∷ []))
    (has_operands c (Take w false)) locally in
    let split = total-plus ws zero_there one_there no_wires in
    let first = after c (Take w false) in
    let second : weight (c ++ Take w true ∷ []) ≡ total ws one_there no_wires =
    after c (Take w true) ∙ ap (λ ns. total ns one_there no_wires) (names_either c w) in
    let all : total ws (λ x. norm (amp c x)) no_wires ≡ weight c = before c (Take w false) in
    omega (arith, first, second, split, both, all)

-- ---- circuits that are not zero
pub weight_where_nonzero : (c : Circuit) → IsNonzero c → weight c ≢ 0
weight_where_nonzero c (x, ne) none =
    let below = term_below_total (names c) (λ y. norm (amp c y)) no_wires x outside in
    ne (zero_where_norm-zero (amp c x) (let e : norm (amp c x) ≡ 0 = omega arith in e))
  where
    outside : (w : Wire) → Lacks (names c) w → has x w ≡ has no_wires w
    outside w l = elim (has x w) as (λ b. has x w ≡ b → b ≡ has no_wires w) [
      | true ↦ λ h. absurd (ne (IsBlank-unnamed c w l x h))
      | false ↦ λ h. sym (has-no_wires w)
    ] refl

pub nonzero_where_weight : (c : Circuit) → weight c ≢ 0 → IsNonzero c
nonzero_where_weight c ne = let r = term_of_total (names c) (λ y. norm (amp c y)) no_wires ne in (r.0, (λ e. r.1 (ap norm e ∙ norm-zero)))

-- where the weight of D is that of C times a number that is not zero, D is not zero where C is not
nonzero_by_weight : (c d : Circuit) (k : ℕ) → 0 < k → weight d ≡ k * weight c → IsNonzero c → IsNonzero d
nonzero_by_weight c d k positive e some =
    nonzero_where_weight d (λ z.
    let h : k * weight c ≤ k * 0 = omega arith in
    let least = le_of_mul-le-mul_left h positive in
    weight_where_nonzero c some (omega arith))

pub IsNonzero-append_unitary : (c ls : List Letter) → AllUnitary ls → IsNonzero c → IsNonzero (c ++ ls)
IsNonzero-append_unitary c ls u = nonzero_by_weight c (c ++ ls) (2 ^ halvings ls) (pow_pos (halvings ls)) (weight-append_unitary c ls u)

pub IsNonzero-push_rename : (c : Circuit) (q f : Wire) → q ≢ f → IsBlank c f → IsNonzero c → IsNonzero (c ++ Rename q f ∷ [])
IsNonzero-push_rename c q f ne blank = nonzero_by_weight c _ 1 (omega arith) (weight-push_rename c q f ne blank ∙ once _)
  where
    once : (n : ℕ) → n ≡ 1 * n
    once n = omega arith

pub IsNonzero-push_pair : (c : Circuit) (e f : Wire) → e ≢ f → IsBlank c e → IsBlank c f → IsNonzero c → IsNonzero (c ++ Pair e f ∷ [])
IsNonzero-push_pair c e f ne e_blank f_blank = nonzero_by_weight c _ 2 (omega arith) (weight-push_pair c e f ne e_blank f_blank)

pub IsNonzero-push_take_blank : (c : Circuit) (w : Wire) → IsBlank c w → IsNonzero c → IsNonzero (c ++ Take w false ∷ [])
IsNonzero-push_take_blank c w blank (x, some) = (x, (λ e. some (sym (amp-push_take_blank c w blank x) ∙ e)))

-- a wire that is kept as m, where some amplitude with the wire as m is not zero
pub IsNonzero-push_keep : (c : Circuit) (w : Wire) (m : Bool) (x : Wires) → has x w ≡ m → amp c x ≢ zero_number → IsNonzero (c ++ Keep w m ∷ [])
IsNonzero-push_keep c w true x h some = (x, (λ e. some ((rw h at (sym (amp-push c (Keep w true) x))) ∙ e)))
IsNonzero-push_keep c w false x h some = (x, (λ e. some ((rw h at (sym (amp-push c (Keep w false) x))) ∙ e)))
