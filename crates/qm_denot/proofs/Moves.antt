-- The second halves of a move and of a controlled-not of another rank
use Rattle.std.proofs.Common.{◌≡◌, ◌≢◌, Bool, true, false, not, List, [], ◌∷◌, ◌++◌, refl, sym, ap, ap₂, ◌∙◌}
use mathlib.Core.Path.{fun_ext}
use Rattle.qm_zomega.specs.Numbers.{zero_number}
use Rattle.qm_denot.specs.declared.Wire.{Wire}
use Rattle.qm_denot.specs.declared.Letter.{Letter}
use Rattle.qm_denot.specs.declared.Letter.TheVariants.{Phase, Flip, Had, Cx, Take, Rename}
use Rattle.qm_denot.specs.Wires.{Wires, has, put}
use Rattle.qm_denot.specs.Weights.{operands}
use Rattle.qm_denot.specs.Circuits.{Amplitudes, with_letter, with_letters, IsBlankIn}
use Rattle.qm_denot.specs.Protocols.{letter_if, differing, differ, Agree}
use Rattle.qm_denot.proofs.Sets.{has-put_same, has-put_other, put_twice, put_swap, put_has}
use Rattle.qm_denot.proofs.Amplitudes.{with_letters-append}
use Rattle.qm_denot.proofs.Agreement.{LettersApart}
use Rattle.qm_denot.proofs.Support.{LooksAt, IsZeroOn-with_letters}
use Rattle.qm_denot.proofs.Commuting.{AllApart, with_letters_swap}
use Rattle.qm_denot.proofs.Parities.{with_letters-uncopy}
use Rattle.qm_denot.proofs.NameLists.{not_sym}

-- ---- equality of two wires
pub Agree_sym : (g : Amplitudes) (v w : Wire) → Agree g v w → Agree g w v
Agree_sym g v w agree x d = agree x (turned (has x w) (has x v) d)
  where
    turned : (a b : Bool) → differing a b ≡ true → differing b a ≡ true
    turned true true e = e
    turned true false e = refl
    turned false true e = refl
    turned false false e = e

-- whether two wires differ goes by these two alone. So letters off both keep them equal
pub LooksAt-differ : (v w : Wire) → LooksAt (differ v w) (v ∷ w ∷ [])
LooksAt-differ v w x y a = ap₂ differing a.0 a.1.0

pub Agree-with_letters : (ls : List Letter) (v w : Wire) → LettersApart ls (v ∷ w ∷ []) → (f : Amplitudes) → Agree f v w → Agree (with_letters ls f) v w
Agree-with_letters ls v w apart f agree = IsZeroOn-with_letters (differ v w) (v ∷ w ∷ []) (LooksAt-differ v w) ls apart f agree

-- a wire and its copy onto a blank wire are equal
pub Agree-copy : (g : Amplitudes) (q f : Wire) → q ≢ f → IsBlankIn g f → Agree (with_letter (Cx q f) g) q f
Agree-copy g q f qf blank x d = by_bits (has x q) (has x f) refl refl d
  where
    by_bits : (a b : Bool) → has x q ≡ a → has x f ≡ b → differing a b ≡ true → with_letter (Cx q f) g x ≡ zero_number
    by_bits true true hq hf d = cc
    by_bits true false hq hf d = rw (hq, hf) (blank (put x f true) (has-put_same x f true))
    by_bits false true hq hf d = rw hq (blank x hf)
    by_bits false false hq hf d = cc

-- they stay equal where the copy is the control of a controlled-not
pub Agree-control : (g : Amplitudes) (q f t : Wire) → q ≢ t → f ≢ t → Agree g q f → Agree (with_letter (Cx f t) g) q f
Agree-control g q f t qt ft agree x d = by_bit (has x f) refl
  where
    by_bit : (b : Bool) → has x f ≡ b → with_letter (Cx f t) g x ≡ zero_number
    by_bit true h =
        let a = has-put_other x t (not (has x t)) q qt in
        let b = has-put_other x t (not (has x t)) f ft in
        rw h (agree (put x t (not (has x t))) (rw (a, b) d))
    by_bit false h = rw h (agree x d)

-- ---- a move
module _ (g : Amplitudes) (q f : Wire) (qf : q ≢ f) (fq : f ≢ q) (x : Wires) where
  swap_at : (a b : Bool) → has x q ≡ a → has x f ≡ b → with_letters (Cx q f ∷ Cx f q ∷ Take q false ∷ []) g x ≡ with_letter (Rename q f) g x
  swap_at true b hq hf = rw hq refl
  swap_at false true hq hf = let p = put_has x q false hq in simp (has-put_same, has-put_other, hq, hf, p)
  swap_at false false hq hf = let p = put_has x q false hq in let r = put_has x f false hf in simp (hq, hf, p, r)

-- a copy, crossed back and the old wire given up, is a renaming
pub with_letters-swap : (g : Amplitudes) (q f : Wire) → q ≢ f → with_letters (Cx q f ∷ Cx f q ∷ Take q false ∷ []) g ≡ with_letter (Rename q f) g
with_letters-swap g q f qf = fun_ext (λ x. swap_at g q f qf (not_sym qf) x (has x q) (has x f) refl refl)

letter_if_apart : (m : Bool) (l : Letter) (ks : List Letter) → LettersApart ks (operands l) → AllApart (letter_if m l) ks
letter_if_apart true l ks apart = (apart, tt)
letter_if_apart false l ks apart = tt

-- a copy whose old wire is measured by its sign is a renaming: the sign of f changes where the outcome is 1
pub with_letters-move : (g : Amplitudes) (q f : Wire) → q ≢ f → IsBlankIn g f → (m n : Bool)
    → with_letters (Cx q f ∷ (letter_if m (Flip f) ++ Had q ∷ Take q n ∷ [])) g
    ≡ with_letters (Rename q f ∷ (letter_if n (Phase 4 f) ++ letter_if m (Flip f))) g
with_letters-move g q f qf blank m n =
    let flips = letter_if m (Flip f) in
    let turns = letter_if n (Phase 4 f) in
    let measured = Had q ∷ Take q n ∷ [] in
    let copied = with_letter (Cx q f) g in
    with_letters_swap flips measured (letter_if_apart m (Flip f) measured (((not_sym qf, tt), tt), (((not_sym qf, tt), tt), tt))) copied
    ∙ ap (with_letters flips) (with_letters-uncopy copied f q (not_sym qf) (Agree_sym copied q f (Agree-copy g q f qf blank)) n)
    ∙ ap (λ (h : Amplitudes). with_letters flips (with_letters turns h)) (with_letters-swap g q f qf)
    ∙ sym (with_letters-append turns flips (with_letter (Rename q f) g))

-- ---- a controlled-not by a copy of its control
module _ (g : Amplitudes) (q f t : Wire) (qf : q ≢ f) (fq : f ≢ q) (qt : q ≢ t) (ft : f ≢ t) (tf : t ≢ f) (blank : IsBlankIn g f) (x : Wires) where
  abbrev Through : Type 0
  Through = with_letters (Cx q f ∷ Cx f t ∷ Cx q f ∷ Take f false ∷ []) g x ≡ with_letter (Cx q t) g x

  through_one : (a : Bool) → has x f ≡ true → has x q ≡ a → Through
  through_one true hf hq = let z = blank (put x t (not (has x t))) (has-put_other x t (not (has x t)) f ft ∙ hf) in rw (hf, hq) (sym z)
  through_one false hf hq = let z = blank x hf in rw (hf, hq) (sym z)

  through_zero : (a : Bool) → has x f ≡ false → has x q ≡ a → Through
  through_zero true hf hq =
      let p = put_has x f false hf in
      let swap : (b c : Bool) → put (put x f b) t c ≡ put (put x t c) f b = λ b c. put_swap x f t b c ft in
      let r = put_has (put x t (not (has x t))) f false (has-put_other x t (not (has x t)) f ft ∙ hf) in
      simp (has-put_same, has-put_other, put_twice, swap, hf, hq, p, r)
  through_zero false hf hq = let p = put_has x f false hf in simp (hf, hq, p)

  through_at : (b : Bool) → has x f ≡ b → Through
  through_at true hf = through_one (has x q) hf refl
  through_at false hf = through_zero (has x q) hf refl

pub with_letters-through : (g : Amplitudes) (q f t : Wire) → q ≢ f → q ≢ t → f ≢ t → IsBlankIn g f
    → with_letters (Cx q f ∷ Cx f t ∷ Cx q f ∷ Take f false ∷ []) g ≡ with_letter (Cx q t) g
with_letters-through g q f t qf qt ft blank = fun_ext (λ x. through_at g q f t qf (not_sym qf) qt ft (not_sym ft) blank x (has x f) refl)

-- a copy that was the control and is measured by its sign: the sign of q changes where the outcome is 1
pub with_letters-reach : (g : Amplitudes) (q f t : Wire) → q ≢ f → q ≢ t → f ≢ t → IsBlankIn g f → (n : Bool)
    → with_letters (Cx q f ∷ Cx f t ∷ Had f ∷ Take f n ∷ []) g ≡ with_letters (Cx q t ∷ letter_if n (Phase 4 q)) g
with_letters-reach g q f t qf qt ft blank n =
    let copied = with_letter (Cx q f) g in
    with_letters-uncopy (with_letter (Cx f t) copied) q f qf (Agree-control copied q f t qt ft (Agree-copy g q f qf blank)) n
    ∙ ap (with_letters (letter_if n (Phase 4 q))) (with_letters-through g q f t qf qt ft blank)
