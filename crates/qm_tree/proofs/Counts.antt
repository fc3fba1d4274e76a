-- What lists of wires say does not depend on their order: it goes by how often each wire stands in them
use Rattle.std.proofs.Common.{◌≡◌, ◌≢◌, ◌∙◌, ℕ, suc, ◌+◌, ◌<◌, ◌≤◌, Bool, true, false, cond, ◌&&◌, nat_eq, List, [], ◌∷◌, refl, sym, ap, subst, arith}
use mathlib.Core.Path.{fun_ext}
use Rattle.std.specs.List.Sorted.{IsPermutation}
use Rattle.std.proofs.lemmas.List.Sorted.{sum_by-IsPermutation}
use Rattle.std.proofs.lemmas.List.Recursion.{is_sum_by}
use Rattle.std.proofs.lemmas.Bool.Decides.{nat_tests}
use Rattle.qm_zomega.specs.Numbers.{zero_number}
use Rattle.qm_denot.specs.declared.Wire.{Wire}
use Rattle.qm_denot.specs.Wires.{Wires, has, put, is_wire}
use Rattle.qm_denot.specs.WireLists.{Lacks, Distinct}
use Rattle.qm_denot.specs.Places.{without}
use Rattle.qm_denot.specs.Circuits.{Amplitudes, IsBlankIn, same_bit}
use Rattle.qm_denot.specs.Collectives.{are_all, AreBlankIn, copied_onto}
use Rattle.qm_denot.proofs.Sets.{same_from_is, is_wire_itself, is_wire_other, has-put_same, has-put_other, same_wires}

-- how often a wire stands in a list
abbrev pub times : Wire → List Wire → ℕ
times w [] = 0
times w (v ∷ vs) = cond (is_wire v w) (suc (times w vs)) (times w vs)

-- a list has the wires of another as often
pub times-permuted : (vs ws : List Wire) → IsPermutation vs ws → (w : Wire) → times w ws ≡ times w vs
times-permuted vs ws p w =
    let one : Wire → ℕ = λ v. cond (is_wire v w) 1 0 in
    let by_sum = is_sum_by (times w) one refl (λ v us. added (is_wire v w) (times w us)) in
    by_sum ws ∙ sum_by-IsPermutation one vs ws p ∙ sym (by_sum vs)
  where
    added : (b : Bool) (n : ℕ) → cond b (suc n) n ≡ cond b 1 0 + n
    added true n = omega arith
    added false n = omega arith

-- a wire at the front
pub times-here : (w : Wire) (ws : List Wire) → 0 < times w (w ∷ ws)
times-here w ws = let e = is_wire_itself w in rw e (omega arith)

-- a wire that isn't at the front, and one that may be
times-there : (v w : Wire) (ws : List Wire) → v ≢ w → times w (v ∷ ws) ≡ times w ws
times-there v w ws other = ap (λ b. cond b (suc (times w ws)) (times w ws)) (is_wire_other v w other)

pub times-more : (v w : Wire) (ws : List Wire) → times w ws ≤ times w (v ∷ ws)
times-more v w ws = either (is_wire v w)
  where
    either : (b : Bool) → times w ws ≤ cond b (suc (times w ws)) (times w ws)
    either true = omega arith
    either false = omega arith

module _ (w : Wire) where
  pub lacks-none : (ws : List Wire) → Lacks ws w → times w ws ≡ 0
  lacks-none [] l = refl
  lacks-none (v ∷ vs) l = times-there v w vs l.0 ∙ lacks-none vs l.1

  pub none-lacks : (ws : List Wire) → times w ws ≡ 0 → Lacks ws w
  none-lacks [] e = tt
  none-lacks (v ∷ vs) e = (
    (λ same. let here = times-here w vs in let n : times w (w ∷ vs) ≡ 0 = subst (λ u. times w (u ∷ vs) ≡ 0) same e in omega arith),
    none-lacks vs (let more = times-more v w vs in omega (arith, e)),
  )

pub distinct-few : (ws : List Wire) → Distinct ws → (w : Wire) → times w ws ≤ 1
distinct-few [] d w = omega arith
distinct-few (v ∷ vs) d w = by_test (distinct-few vs d.1 w) (is_wire v w) refl
  where
    by_test : times w vs ≤ 1 → (t : Bool) → is_wire v w ≡ t → times w (v ∷ vs) ≤ 1
    by_test rest true e =
        let same = same_from_is v w e in
        let none : times w vs ≡ 0 = lacks-none w vs (subst (Lacks vs) same d.0) in
        rw e (omega (arith, none))
    by_test rest false e = rw e rest

pub few-distinct : (ws : List Wire) → ((w : Wire) → times w ws ≤ 1) → Distinct ws
few-distinct [] few = tt
few-distinct (v ∷ vs) few = (
  none-lacks v vs (let one = few v in let e = is_wire_itself v in let h : suc (times v vs) ≤ 1 = rw e at one in omega (arith, h)),
  few-distinct vs (λ w. let all = few w in let more = times-more v w vs in omega (arith, all, more)),
)

module _ (f : Amplitudes) where
  pub blank-each : (ws : List Wire) → AreBlankIn f ws → (w : Wire) → 0 < times w ws → IsBlankIn f w
  blank-each [] b w some = absurd (omega (arith, some))
  blank-each (v ∷ vs) b w some = by_test (blank-each vs b.1 w) (is_wire v w) refl
    where
      by_test : (0 < times w vs → IsBlankIn f w) → (t : Bool) → is_wire v w ≡ t → IsBlankIn f w
      by_test rest true e = subst (IsBlankIn f) (same_from_is v w e) b.0
      by_test rest false e = rest (rw e at some)

-- ---- sets
has-without : (ws : List Wire) (x : Wires) (w : Wire) → has (without x ws) w ≡ cond (nat_eq (times w ws) 0) (has x w) false
has-without [] x w = refl
has-without (v ∷ vs) x w = has-without vs (put x v false) w ∙ by_test (is_wire v w) refl
  where
    no_matter : (t : Bool) → cond t false false ≡ false
    no_matter true = refl
    no_matter false = refl

    not_zero : (n : ℕ) → nat_eq (suc n) 0 ≡ false
    not_zero n = grind (arith, nat_tests)

    by_test : (t : Bool) → is_wire v w ≡ t
        → cond (nat_eq (times w vs) 0) (has (put x v false) w) false ≡ cond (nat_eq (times w (v ∷ vs)) 0) (has x w) false
    by_test true e =
        ap (λ b. cond (nat_eq (times w vs) 0) b false) (subst (λ u. has (put x v false) u ≡ false) (same_from_is v w e) (has-put_same x v false))
        ∙ rw e (no_matter (nat_eq (times w vs) 0) ∙ sym (ap (λ b. cond b (has x w) false) (not_zero (times w vs))))
    by_test false e =
        let other : w ≢ v = λ s. (let i : is_wire v w ≡ true = subst (λ u. is_wire v u ≡ true) (sym s) (is_wire_itself v) in cc) in
        ap (λ b. cond (nat_eq (times w vs) 0) b false) (has-put_other x v false w other) ∙ rw e refl

all-each : (ws : List Wire) (b : Bool) (x : Wires) → are_all b ws x ≡ true → (w : Wire) → 0 < times w ws → same_bit (has x w) b ≡ true
all-each [] b x a w some = absurd (omega (arith, some))
all-each (v ∷ vs) b x a w some = by_test (all-each vs b x (right (same_bit (has x v) b) (are_all b vs x) a) w) (is_wire v w) refl
  where
    left : (s t : Bool) → s && t ≡ true → s ≡ true
    left true t e = refl
    left false t e = e

    right : (s t : Bool) → s && t ≡ true → t ≡ true
    right true t e = e
    right false t e = cc

    by_test : (0 < times w vs → same_bit (has x w) b ≡ true) → (t : Bool) → is_wire v w ≡ t → same_bit (has x w) b ≡ true
    by_test rest true e = subst (λ u. same_bit (has x u) b ≡ true) (same_from_is v w e) (left (same_bit (has x v) b) (are_all b vs x) a)
    by_test rest false e = rest (rw e at some)

each-all : (ws : List Wire) (b : Bool) (x : Wires) → ((w : Wire) → 0 < times w ws → same_bit (has x w) b ≡ true) → are_all b ws x ≡ true
each-all [] b x h = refl
each-all (v ∷ vs) b x h =
    let first = h v (times-here v vs) in
    let rest = each-all vs b x (λ w some. h w (let more = times-more v w vs in omega (arith, some, more))) in
    rw (first, rest) refl

-- where some wire of the list is not b, not all are
pub not-all : (ws : List Wire) (b : Bool) (x : Wires) (w : Wire) → 0 < times w ws → same_bit (has x w) b ≡ false → are_all b ws x ≡ false
not-all ws b x w some other = by_test (are_all b ws x) refl
  where
    by_test : (t : Bool) → are_all b ws x ≡ t → are_all b ws x ≡ false
    by_test true e = let same = all-each ws b x e w some in cc
    by_test false e = e

module _ (vs ws : List Wire) (same : (w : Wire) → times w vs ≡ times w ws) where
  same-all : (b : Bool) (x : Wires) → are_all b vs x ≡ are_all b ws x
  same-all b x = by_tests (are_all b vs x) refl (are_all b ws x) refl
    where
      by_tests : (s : Bool) → are_all b vs x ≡ s → (t : Bool) → are_all b ws x ≡ t → are_all b vs x ≡ are_all b ws x
      by_tests true e true f = e ∙ sym f
      by_tests false e false f = e ∙ sym f
      by_tests true e false f = let g = each-all ws b x (λ w some. all-each vs b x e w (let t = same w in omega (arith, some, t))) in cc
      by_tests false e true f = let g = each-all vs b x (λ w some. all-each ws b x f w (let t = same w in omega (arith, some, t))) in cc

  same-without : (x : Wires) → without x vs ≡ without x ws
  same-without x = same_wires _ _ (λ w. has-without vs x w ∙ ap (λ n. cond (nat_eq n 0) (has x w) false) (same w) ∙ sym (has-without ws x w))

  -- a qubit copied onto the wires of one list, and onto those of the other
  pub same-copied : (q : Wire) (f : Amplitudes) → copied_onto vs q f ≡ copied_onto ws q f
  same-copied q f = fun_ext (λ x.
      ap (λ b. cond b (f (without x vs)) zero_number) (same-all (has x q) x)
      ∙ ap (λ y. cond (are_all (has x q) ws x) (f y) zero_number) (same-without x))
