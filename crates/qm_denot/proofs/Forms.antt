-- The common form of letters: after a letter, the amplitude at x is the sum of two terms, each a factor times the amplitude before it
-- at x with some operands of the letter put anew. What holds of every letter is proved over this form, and not by nine cases
use Rattle.std.proofs.Common.{◌≡◌, ℕ, Bool, true, false, not, ◌&&◌, cond, if◌then◌else◌, List, [], ◌∷◌, refl, sym, ap, ◌∙◌}
use Rattle.qm_zomega.specs.Numbers.{Number, zero_number, ◌⊕◌, ◌⊖◌, omega_times, root2_times}
use Rattle.qm_zomega.proofs.Laws.Ring.{plus-zero, plus-negative}
use Rattle.qm_zomega.proofs.Laws.Powers.{omega4, omega_times-zero, omega_times-add, omega_times_swap, root2_times-omega, root2_times-zero}
use Rattle.qm_denot.specs.declared.Wire.{Wire}
use Rattle.qm_denot.specs.declared.Letter.{Letter}
use Rattle.qm_denot.specs.declared.Letter.TheVariants.{Phase, Flip, Had, Cx, Cz, Pair, Keep, Take, Rename}
use Rattle.qm_denot.specs.Wires.{Wires, has, put}
use Rattle.qm_denot.specs.WireLists.{Lacks}
use Rattle.qm_denot.specs.Weights.{operands}
use Rattle.qm_denot.specs.Circuits.{Amplitudes, with_letter, same_bit}
use Rattle.qm_denot.proofs.Agreement.{Apart, AgreeOn, AgreeOn-refl, AgreeOn-trans, AgreeOn-put}
use Rattle.qm_denot.proofs.Sets.{has-put_other, put_has, put_swap}

-- ---- factors
-- zero, or a power of omega
pub data Factor : Type 0 where
  naught : Factor
  power : ℕ → Factor

-- the factor times z
abbrev pub times : Factor → Number → Number
times naught z = zero_number
times (power k) z = omega_times k z

-- a factor keeps zero, adds up, and changes places with factors and with powers of root2
pub times-zero : (s : Factor) → times s zero_number ≡ zero_number
times-zero naught = refl
times-zero (power k) = omega_times-zero k

pub times-plus : (s : Factor) (z w : Number) → times s (z ⊕ w) ≡ times s z ⊕ times s w
times-plus naught z w = sym (plus-zero zero_number)
times-plus (power k) z w = omega_times-add k z w

pub times_swap : (s r : Factor) (z : Number) → times s (times r z) ≡ times r (times s z)
times_swap naught r z = sym (times-zero r)
times_swap (power k) naught z = omega_times-zero k
times_swap (power k) (power m) z = omega_times_swap k m z

pub root2_times-times : (n : ℕ) (s : Factor) (z : Number) → root2_times n (times s z) ≡ times s (root2_times n z)
root2_times-times n naught z = root2_times-zero n
root2_times-times n (power k) z = root2_times-omega n k z

-- 1 where b is true, and 0 elsewhere
abbrev pub one_where : Bool → Factor
one_where b = if b then power 0 else naught

-- ---- wires put anew
-- wires, each with the bit that it gets
abbrev pub Writes : Type 0
Writes = List (Wire × Bool)

-- x with each wire of the list put to its bit
abbrev pub written : Wires → Writes → Wires
written x [] = x
written x (p ∷ ps) = written (put x p.0 p.1) ps

-- no wire that is put is in the list
abbrev pub WritesApart : Writes → List Wire → Type 0
WritesApart [] ws = Unit {0}
WritesApart (p ∷ ps) ws = Lacks ws p.0 × WritesApart ps ws

written-put : (x : Wires) (w : Wire) (b : Bool) (ps : Writes) → WritesApart ps (w ∷ []) → written (put x w b) ps ≡ put (written x ps) w b
written-put x w b [] apart = refl
written-put x w b (p ∷ ps) apart =
    ap (λ y. written y ps) (put_swap x w p.0 b p.1 apart.0.0) ∙ written-put (put x p.0 p.1) w b ps apart.1

-- writes off a list leave its wires as they are
pub AgreeOn-written : (ws : List Wire) (x : Wires) (ps : Writes) → WritesApart ps ws → AgreeOn ws x (written x ps)
AgreeOn-written ws x [] apart = AgreeOn-refl ws x
AgreeOn-written ws x (p ∷ ps) apart =
    AgreeOn-trans ws x (put x p.0 p.1) (written x (p ∷ ps)) (AgreeOn-put ws x p.0 p.1 apart.0) (AgreeOn-written ws (put x p.0 p.1) ps apart.1)

-- two lists of writes may change places where ws has the wires of the one and lacks those of the other
pub written_swap : (ws : List Wire) (qs : Writes) → ((v : Wire) → Lacks ws v → WritesApart qs (v ∷ []))
    → (x : Wires) (ps : Writes) → WritesApart ps ws → written (written x ps) qs ≡ written (written x qs) ps
written_swap ws qs inside x [] apart = refl
written_swap ws qs inside x (p ∷ ps) apart =
    written_swap ws qs inside (put x p.0 p.1) ps apart.1 ∙ ap (λ y. written y ps) (written-put x p.0 p.1 qs (inside p.0 apart.0))

-- ---- the form
pub record Term : Type 0 where
  pub factor : Factor
  pub writes : Writes

-- what the term makes of f, at x
abbrev pub value : Term → Amplitudes → Amplitudes
value t f x = times t.factor (f (written x t.writes))

pub record Form : Type 0 where
  pub first : Term
  pub second : Term

-- one term; the second is zero
abbrev one : Factor → Writes → Form
one s ps = record { first = record { factor = s; writes = ps }; second = record { factor = naught; writes = [] } }

-- the two terms of a letter at x
abbrev pub form : Letter → Wires → Form
form (Phase k w) x = one (if has x w then power k else power 0) []
form (Flip w) x = one (power 0) ((w, not (has x w)) ∷ [])
form (Had w) x = record {
  first = record { factor = power 0; writes = (w, false) ∷ [] };
  second = record { factor = if has x w then power 4 else power 0; writes = (w, true) ∷ [] };
}
form (Cx c t) x = one (power 0) ((t, if has x c then not (has x t) else has x t) ∷ [])
form (Cz c t) x = one (if has x c && has x t then power 4 else power 0) []
form (Pair a b) x = one (one_where (same_bit (has x a) (has x b))) ((a, false) ∷ (b, false) ∷ [])
form (Keep w m) x = one (one_where (same_bit (has x w) m)) []
form (Take w m) x = one (one_where (not (has x w))) ((w, m) ∷ [])
form (Rename a b) x = one (one_where (not (has x a))) ((a, has x b) ∷ (b, false) ∷ [])

turned_where : (b : Bool) (j k : ℕ) (z : Number) → cond b (omega_times j z) (omega_times k z) ≡ times (cond b (power j) (power k)) z ⊕ zero_number
turned_where true j k z = sym (plus-zero _)
turned_where false j k z = sym (plus-zero _)

kept_where : (b : Bool) (z : Number) → cond b z zero_number ≡ times (one_where b) z ⊕ zero_number
kept_where true z = sym (plus-zero z)
kept_where false z = sym (plus-zero zero_number)

kept_unless : (b : Bool) (z : Number) → cond b zero_number z ≡ times (one_where (not b)) z ⊕ zero_number
kept_unless true z = sym (plus-zero zero_number)
kept_unless false z = sym (plus-zero z)

module _ (f : Amplitudes) (x : Wires) (w : Wire) where
  both_branches : (b : Bool) → has x w ≡ b
      → cond b (f (put x w false) ⊖ f x) (f x ⊕ f (put x w true)) ≡ f (put x w false) ⊕ times (cond b (power 4) (power 0)) (f (put x w true))
  both_branches true e =
      sym (plus-negative _ _) ∙ ap (λ z. f (put x w false) ⊕ z) (sym (omega4 (f x)) ∙ ap (λ y. omega_times 4 (f y)) (sym (put_has x w true e)))
  both_branches false e = ap (λ y. f y ⊕ f (put x w true)) (sym (put_has x w false e))

  toggled_where : (b : Bool) → cond b (f (put x w (not (has x w)))) (f x) ≡ f (put x w (cond b (not (has x w)) (has x w))) ⊕ zero_number
  toggled_where true = sym (plus-zero _)
  toggled_where false = ap f (sym (put_has x w (has x w) refl)) ∙ sym (plus-zero _)

-- the amplitudes after a letter, by its form
pub with_letter-form : (l : Letter) (f : Amplitudes) (x : Wires) → with_letter l f x ≡ value (form l x).first f x ⊕ value (form l x).second f x
with_letter-form (Phase k w) f x = turned_where (has x w) k 0 (f x)
with_letter-form (Flip w) f x = sym (plus-zero _)
with_letter-form (Had w) f x = both_branches f x w (has x w) refl
with_letter-form (Cx c t) f x = toggled_where f x t (has x c)
with_letter-form (Cz c t) f x = ap (λ z. cond (has x c && has x t) z (f x)) (sym (omega4 (f x))) ∙ turned_where (has x c && has x t) 4 0 (f x)
with_letter-form (Pair a b) f x = kept_where (same_bit (has x a) (has x b)) _
with_letter-form (Keep w m) f x = kept_where (same_bit (has x w) m) _
with_letter-form (Take w m) f x = kept_unless (has x w) _
with_letter-form (Rename a b) f x = kept_unless (has x a) _

-- the form depends on the bits of the operands alone
pub form-put : (l : Letter) (x : Wires) (v : Wire) (b : Bool) → Lacks (operands l) v → form l (put x v b) ≡ form l x
form-put (Phase k w) x v b n = ap (λ h. one (cond h (power k) (power 0)) []) (has-put_other x v b w n.0)
form-put (Flip w) x v b n = ap (λ h. one (power 0) ((w, not h) ∷ [])) (has-put_other x v b w n.0)
form-put (Had w) x v b n = let e = has-put_other x v b w n.0 in rw e refl
form-put (Cx c t) x v b n = let e = has-put_other x v b c n.0 in let g = has-put_other x v b t n.1.0 in rw (e, g) refl
form-put (Cz c t) x v b n = let e = has-put_other x v b c n.0 in let g = has-put_other x v b t n.1.0 in rw (e, g) refl
form-put (Pair a c) x v b n = let e = has-put_other x v b a n.0 in let g = has-put_other x v b c n.1.0 in rw (e, g) refl
form-put (Keep w m) x v b n = let e = has-put_other x v b w n.0 in rw e refl
form-put (Take w m) x v b n = let e = has-put_other x v b w n.0 in rw e refl
form-put (Rename a c) x v b n = let e = has-put_other x v b a n.0 in let g = has-put_other x v b c n.1.0 in rw (e, g) refl

-- the form is the same at a set with other wires put anew
pub form-written : (l : Letter) (x : Wires) (ps : Writes) → WritesApart ps (operands l) → form l (written x ps) ≡ form l x
form-written l x [] apart = refl
form-written l x (p ∷ ps) apart = form-written l (put x p.0 p.1) ps apart.1 ∙ form-put l x p.0 p.1 apart.0

-- the form puts operands alone
pub form_apart : (l : Letter) (x : Wires) (vs : List Wire) → Apart (operands l) vs → WritesApart (form l x).first.writes vs × WritesApart (form l x).second.writes vs
form_apart (Phase k w) x vs a = (tt, tt)
form_apart (Flip w) x vs a = ((a.0, tt), tt)
form_apart (Had w) x vs a = ((a.0, tt), (a.0, tt))
form_apart (Cx c t) x vs a = ((a.1.0, tt), tt)
form_apart (Cz c t) x vs a = (tt, tt)
form_apart (Pair b c) x vs a = ((a.0, (a.1.0, tt)), tt)
form_apart (Keep w m) x vs a = (tt, tt)
form_apart (Take w m) x vs a = ((a.0, tt), tt)
form_apart (Rename b c) x vs a = ((a.0, (a.1.0, tt)), tt)
