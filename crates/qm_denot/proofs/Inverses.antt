-- Unitary letters: each is undone by its inverse, up to the power of root2 that both leave
use Rattle.std.proofs.Common.{◌≡◌, ◌≢◌, ℕ, zero, suc, ◌+◌, ◌*◌, Bool, true, false, not, ◌&&◌, cond, List, [], ◌∷◌, ◌++◌, refl, sym, ap, ◌∙◌, arith}
use mathlib.Core.Path.{fun_ext}
use Rattle.qm_zomega.specs.Numbers.{Number, negative, omega_times, root2_times}
use Rattle.qm_zomega.proofs.Laws.Ring.{negative-negative, plus-plus-minus, minus-plus-minus}
use Rattle.qm_zomega.proofs.Laws.Powers.{omega8, omega_times-more, root2-root2, root2_times-more}
use Rattle.qm_denot.specs.declared.Wire.{Wire}
use Rattle.qm_denot.specs.declared.Letter.{Letter}
use Rattle.qm_denot.specs.declared.Letter.TheVariants.{Phase, Flip, Had, Cx, Cz, Pair, Keep, Take, Rename}
use Rattle.qm_denot.specs.Wires.{Wires, has, toggled}
use Rattle.qm_denot.specs.Weights.{operands}
use Rattle.qm_denot.specs.Protocols.{letter_if}
use Rattle.qm_denot.specs.Circuits.{Amplitudes, Circuit, with_letter, with_letters, amp, halves_of, halvings, IsEqualUpTo}
use Rattle.qm_denot.proofs.Sets.{has-put_same, has-put_other, put_twice, put_has}
use Rattle.qm_denot.proofs.Agreement.{LettersApart, LettersApart-append}
use Rattle.qm_denot.proofs.Amplitudes.{with_letters-append, amp-append, halvings-append}
use Rattle.qm_denot.proofs.Linear.{with_letter-scaled}
use Rattle.qm_denot.proofs.EqualUpTo.{equal_from_same}

-- a unitary letter, its operands different: it can be undone
abbrev pub IsUnitary : Letter → Type 0
IsUnitary (Phase k w) = Unit {0}
IsUnitary (Flip w) = Unit {0}
IsUnitary (Had w) = Unit {0}
IsUnitary (Cx c t) = c ≢ t
IsUnitary (Cz c t) = c ≢ t
IsUnitary (Pair a b) = ⊥
IsUnitary (Keep w m) = ⊥
IsUnitary (Take w m) = ⊥
IsUnitary (Rename a b) = ⊥

abbrev pub AllUnitary : List Letter → Type 0
AllUnitary [] = Unit {0}
AllUnitary (l ∷ ls) = IsUnitary l × AllUnitary ls

-- the letter that undoes a unitary one: omega^(7k) undoes omega^k, and the others undo themselves
abbrev pub inverse : Letter → Letter
inverse (Phase k w) = Phase (7 * k) w
inverse l = l

-- the inverses, last letter first
abbrev pub reversed : List Letter → List Letter
reversed [] = []
reversed (l ∷ ls) = reversed ls ++ inverse l ∷ []

omega_times-whole : (k : ℕ) (z : Number) → omega_times (8 * k) z ≡ z
omega_times-whole zero z = refl
omega_times-whole (suc k) z = let e : 8 * suc k ≡ 8 + 8 * k = omega arith in rw e (omega_times-more 8 (8 * k) z ∙ omega8 _ ∙ omega_times-whole k z)

turned_back : (k : ℕ) (z : Number) → omega_times (7 * k) (omega_times k z) ≡ z
turned_back k z = let e : 7 * k + k ≡ 8 * k = omega arith in sym (omega_times-more (7 * k) k z) ∙ rw e (omega_times-whole k z)

not_not : (b : Bool) → not (not b) ≡ b
not_not true = refl
not_not false = refl

pub toggled_twice : (x : Wires) (w : Wire) → toggled (toggled x w) w ≡ x
toggled_twice x w = put_twice x w _ _ ∙ put_has x w _ (sym (ap not (has-put_same x w (not (has x w))) ∙ not_not (has x w)))

-- ---- each letter and its inverse
phase_back : (b : Bool) (k : ℕ) (z : Number) → cond b (omega_times (7 * k) (cond b (omega_times k z) z)) (cond b (omega_times k z) z) ≡ z
phase_back true k z = turned_back k z
phase_back false k z = refl

sign_back : (b : Bool) (z : Number) → cond b (negative (cond b (negative z) z)) (cond b (negative z) z) ≡ z
sign_back true z = negative-negative z
sign_back false z = refl

module _ (f : Amplitudes) (x : Wires) where
  cross_back : (c t : Wire) → c ≢ t → (b : Bool) → has x c ≡ b → with_letter (Cx c t) (with_letter (Cx c t) f) x ≡ f x
  cross_back c t ne true e = let g = has-put_other x t (not (has x t)) c ne ∙ e in rw (e, g) (ap f (toggled_twice x t))
  cross_back c t ne false e = rw e refl

  had_back : (w : Wire) (b : Bool) → has x w ≡ b → with_letter (Had w) (with_letter (Had w) f) x ≡ root2_times 2 (f x)
  had_back w true e = let p = put_has x w true e in simp (e, has-put_same, put_twice, p) (minus-plus-minus _ _ ∙ sym (root2-root2 _))
  had_back w false e = let p = put_has x w false e in simp (e, has-put_same, put_twice, p) (plus-plus-minus _ _ ∙ sym (root2-root2 _))

  -- a unitary letter and its inverse
  pub with_letter-inverse : (l : Letter) → IsUnitary l → with_letter (inverse l) (with_letter l f) x ≡ root2_times (halves_of l + halves_of l) (f x)
  with_letter-inverse (Phase k w) u = phase_back (has x w) k (f x)
  with_letter-inverse (Flip w) u = ap f (toggled_twice x w)
  with_letter-inverse (Had w) u = had_back w (has x w) refl
  with_letter-inverse (Cx c t) u = cross_back c t u (has x c) refl
  with_letter-inverse (Cz c t) u = sign_back (has x c && has x t) (f x)
  with_letter-inverse (Pair a b) u = absurd u
  with_letter-inverse (Keep w m) u = absurd u
  with_letter-inverse (Take w m) u = absurd u
  with_letter-inverse (Rename a b) u = absurd u

halves_of-inverse : (l : Letter) → halves_of (inverse l) ≡ halves_of l
halves_of-inverse (Phase k w) = refl
halves_of-inverse l = refl

operands-inverse : (l : Letter) → operands (inverse l) ≡ operands l
operands-inverse (Phase k w) = refl
operands-inverse l = refl

-- ---- lists of letters and their inverses
-- unitary letters and then their inverses
pub with_letters-reversed : (ls : List Letter) → AllUnitary ls → (f : Amplitudes) (x : Wires)
    → with_letters (reversed ls) (with_letters ls f) x ≡ root2_times (halvings ls + halvings ls) (f x)
with_letters-reversed [] u f x = refl
with_letters-reversed (l ∷ ls) u f x =
    let g = with_letter l f in
    let n = halvings ls + halvings ls in
    let sum : (halves_of l + halvings ls) + (halves_of l + halvings ls) ≡ n + (halves_of l + halves_of l) = omega arith in
    ap (λ (h : Amplitudes). h x) (with_letters-append (reversed ls) (inverse l ∷ []) (with_letters ls g))
    ∙ ap (λ (h : Amplitudes). with_letter (inverse l) h x) (fun_ext (with_letters-reversed ls u.1 g))
    ∙ with_letter-scaled (inverse l) n g x
    ∙ ap (root2_times n) (with_letter-inverse f x l u.0)
    ∙ sym (rw sum (root2_times-more n _ _))

-- inverses halve as often as the letters
pub halvings-reversed : (ls : List Letter) → halvings (reversed ls) ≡ halvings ls
halvings-reversed [] = refl
halvings-reversed (l ∷ ls) = omega (arith, halvings-append (reversed ls) (inverse l ∷ []), halvings-reversed ls, halves_of-inverse l)

-- inverses have the operands of the letters
pub LettersApart-reversed : (ls : List Letter) (ws : List Wire) → LettersApart ls ws → LettersApart (reversed ls) ws
LettersApart-reversed [] ws a = tt
LettersApart-reversed (l ∷ ls) ws a =
    let e = operands-inverse l in
    LettersApart-append (reversed ls) (inverse l ∷ []) ws (LettersApart-reversed ls ws a.1) (rw e a.0, tt)

-- unitary letters and their inverses after C
pub equal_reversed : (c ls : Circuit) → AllUnitary ls → IsEqualUpTo 0 ((c ++ ls) ++ reversed ls) c
equal_reversed c ls u x =
    let left : amp ((c ++ ls) ++ reversed ls) x ≡ root2_times (halvings ls + halvings ls) (amp c x) =
    ap (λ (f : Amplitudes). f x) (amp-append (c ++ ls) (reversed ls) ∙ ap (with_letters (reversed ls)) (amp-append c ls)) ∙ with_letters-reversed ls u (amp c) x in
    let sum : halvings ((c ++ ls) ++ reversed ls) ≡ (halvings c + 0) + (halvings ls + halvings ls) =
    omega (arith, halvings-append (c ++ ls) (reversed ls), halvings-append c ls, halvings-reversed ls) in
    rw (left, sum) (sym (root2_times-more (halvings c + 0) _ _))

-- ---- corrections made twice
-- the letter undoes itself
abbrev IsSelfInverse : Letter → Type 0
IsSelfInverse l = (f : Amplitudes) (x : Wires) → with_letter l (with_letter l f) x ≡ f x

twice_if : (b : Bool) (l : Letter) → IsSelfInverse l → (f : Amplitudes) (x : Wires) → with_letters (letter_if b l ++ letter_if b l) f x ≡ f x
twice_if true l back f x = back f x
twice_if false l back f x = refl

-- a Flip where b is true, twice
pub with_letters-flip_twice : (b : Bool) (w : Wire) (f : Amplitudes) (x : Wires) → with_letters (letter_if b (Flip w) ++ letter_if b (Flip w)) f x ≡ f x
with_letters-flip_twice b w f x = twice_if b (Flip w) (λ f x. with_letter-inverse f x (Flip w) tt) f x

eighth_turn : (b : Bool) (z : Number) → cond b (omega_times 4 (cond b (omega_times 4 z) z)) (cond b (omega_times 4 z) z) ≡ z
eighth_turn true z = sym (omega_times-more 4 4 z) ∙ omega8 z
eighth_turn false z = refl

-- a change of sign where b is true, twice
pub with_letters-sign_twice : (b : Bool) (w : Wire) (f : Amplitudes) (x : Wires) → with_letters (letter_if b (Phase 4 w) ++ letter_if b (Phase 4 w)) f x ≡ f x
with_letters-sign_twice b w f x = twice_if b (Phase 4 w) (λ f x. eighth_turn (has x w) (f x)) f x

-- letters after C that change no amplitude and halve nothing
pub equal_unchanged : (c ls : Circuit) → halvings ls ≡ 0 → ((f : Amplitudes) (x : Wires) → with_letters ls f x ≡ f x) → IsEqualUpTo 0 (c ++ ls) c
equal_unchanged c ls n same =
    equal_from_same (c ++ ls) c 0 (omega (arith, halvings-append c ls)) (λ x. ap (λ (f : Amplitudes). f x) (amp-append c ls) ∙ same (amp c) x)

halvings-twice_if : (b : Bool) (l : Letter) → halves_of l ≡ 0 → halvings (letter_if b l ++ letter_if b l) ≡ 0
halvings-twice_if true l n = rw n refl
halvings-twice_if false l n = refl

-- a Flip where b is true, twice after C
pub equal_flip_twice : (c : Circuit) (b : Bool) (w : Wire) → IsEqualUpTo 0 (c ++ (letter_if b (Flip w) ++ letter_if b (Flip w))) c
equal_flip_twice c b w = equal_unchanged c _ (halvings-twice_if b (Flip w) refl) (with_letters-flip_twice b w)

-- a change of sign where b is true, twice after C
pub equal_sign_twice : (c : Circuit) (b : Bool) (w : Wire) → IsEqualUpTo 0 (c ++ (letter_if b (Phase 4 w) ++ letter_if b (Phase 4 w))) c
equal_sign_twice c b w = equal_unchanged c _ (halvings-twice_if b (Phase 4 w) refl) (with_letters-sign_twice b w)
