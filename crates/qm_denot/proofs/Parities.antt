-- A wire that is the parity of others is measured away, and an uncopy is its case with one other wire
use Rattle.std.proofs.Common.{◌≡◌, ◌≢◌, Bool, true, false, not, cond, List, [], ◌∷◌, ◌++◌, refl, sym, ap, ap₂, ◌∙◌}
use mathlib.Core.Path.{fun_ext}
use Rattle.qm_zomega.specs.Numbers.{Number, zero_number, negative, omega_times}
use Rattle.qm_zomega.proofs.Laws.Ring.{plus-zero, zero-plus, minus-zero, zero-minus, negative-zero, negative-negative}
use Rattle.qm_zomega.proofs.Laws.Powers.{omega4}
use Rattle.qm_denot.specs.declared.Wire.{Wire}
use Rattle.qm_denot.specs.declared.Letter.{Letter}
use Rattle.qm_denot.specs.declared.Letter.TheVariants.{Phase, Had, Cx, Take}
use Rattle.qm_denot.specs.Wires.{Wires, has, put}
use Rattle.qm_denot.specs.WireLists.{Lacks}
use Rattle.qm_denot.specs.Circuits.{Amplitudes, with_letter, with_letters, IsBlankIn}
use Rattle.qm_denot.specs.Protocols.{letters_if, letter_if, crossings, signs, differing, is_odd, Agree, IsParityOf}
use Rattle.qm_denot.proofs.Sets.{has-put_same, has-put_other, put_twice, put_has}
use Rattle.qm_denot.proofs.Amplitudes.{with_letters-append}
use Rattle.qm_denot.proofs.Agreement.{AgreeOn, LettersApart}
use Rattle.qm_denot.proofs.Support.{LooksAt, IsZeroOn-with_letters}

-- a wire that the list lacks does not change the list's parity
pub is_odd-put : (ws : List Wire) (x : Wires) (v : Wire) (b : Bool) → Lacks ws v → is_odd ws (put x v b) ≡ is_odd ws x
is_odd-put [] x v b l = refl
is_odd-put (w ∷ ws) x v b l = let h = has-put_other x v b w l.0 in let r = is_odd-put ws x v b l.1 in rw (h, r) refl

is_odd-agree : (ws : List Wire) (x y : Wires) → AgreeOn ws x y → is_odd ws x ≡ is_odd ws y
is_odd-agree [] x y a = refl
is_odd-agree (w ∷ ws) x y a = ap₂ differing a.0 (is_odd-agree ws x y a.1)

-- whether a wire is the parity of a list goes by these wires alone. So letters off them keep it
pub LooksAt-parity : (v : Wire) (ws : List Wire) → LooksAt (λ x. differing (has x v) (is_odd ws x)) (v ∷ ws)
LooksAt-parity v ws x y a = ap₂ differing a.0 (is_odd-agree ws x y a.1)

pub IsParityOf-with_letters : (ls : List Letter) (v : Wire) (ws : List Wire) → LettersApart ls (v ∷ ws) → (f : Amplitudes)
    → IsParityOf f v ws → IsParityOf (with_letters ls f) v ws
IsParityOf-with_letters ls v ws apart f parity =
    IsZeroOn-with_letters (λ x. differing (has x v) (is_odd ws x)) (v ∷ ws) (LooksAt-parity v ws) ls apart f parity

-- a controlled-not puts its target to the sum of both bits
cross_at : (g : Amplitudes) (x : Wires) (w v : Wire) (c b : Bool) → w ≢ v → has x w ≡ c
    → with_letter (Cx w v) g (put x v b) ≡ g (put x v (differing c b))
cross_at g x w v true b ne h = simp (has-put_same, has-put_other, put_twice, h)
cross_at g x w v false b ne h = simp (has-put_same, has-put_other, put_twice, h)

differing_assoc : (a b c : Bool) → differing a (differing b c) ≡ differing (differing a b) c
differing_assoc true true true = refl
differing_assoc true true false = refl
differing_assoc true false c = refl
differing_assoc false b c = refl

-- controlled-nots of a list put their target to its sum with the list's parity
pub with_letters-crossings_at : (ws : List Wire) (v : Wire) → Lacks ws v → (g : Amplitudes) (x : Wires) (b : Bool)
    → with_letters (crossings ws v) g (put x v b) ≡ g (put x v (differing (is_odd ws x) b))
with_letters-crossings_at [] v l g x b = refl
with_letters-crossings_at (w ∷ ws) v l g x b =
    with_letters-crossings_at ws v l.1 (with_letter (Cx w v) g) x b
    ∙ cross_at g x w v (has x w) (differing (is_odd ws x) b) l.0 refl
    ∙ ap (λ t. g (put x v t)) (differing_assoc (has x w) (is_odd ws x) b)

pub with_letters-crossings : (ws : List Wire) (v : Wire) → Lacks ws v → (g : Amplitudes) (x : Wires)
    → with_letters (crossings ws v) g x ≡ g (put x v (differing (is_odd ws x) (has x v)))
with_letters-crossings ws v l g x = ap (with_letters (crossings ws v) g) (sym (put_has x v (has x v) refl)) ∙ with_letters-crossings_at ws v l g x (has x v)

-- the number, negative where the bit is 1
unfoldable pub sign_of : Bool → Number → Number
sign_of true z = negative z
sign_of false z = z

sign_of-zero : (b : Bool) → sign_of b zero_number ≡ zero_number
unfolding sign_of
sign_of-zero true = negative-zero
sign_of-zero false = refl

pub sign_of_twice : (b : Bool) (z : Number) → sign_of b (sign_of b z) ≡ z
unfolding sign_of
sign_of_twice true z = negative-negative z
sign_of_twice false z = refl

signs_sum : (a b : Bool) (z : Number) → sign_of a (cond b (omega_times 4 z) z) ≡ sign_of (differing b a) z
unfolding sign_of
signs_sum true true z = ap negative (omega4 z) ∙ negative-negative z
signs_sum true false z = refl
signs_sum false true z = omega4 z
signs_sum false false z = refl

-- a change of sign of each wire of a list changes the sign where their parity is 1
pub with_letters-signs : (ws : List Wire) (g : Amplitudes) (x : Wires) → with_letters (signs ws) g x ≡ sign_of (is_odd ws x) (g x)
unfolding sign_of
with_letters-signs [] g x = refl
with_letters-signs (w ∷ ws) g x = with_letters-signs ws (with_letter (Phase 4 w) g) x ∙ signs_sum (is_odd ws x) (has x w) (g x)

module _ (g : Amplitudes) (v : Wire) (ws : List Wire) (l : Lacks ws v) (x : Wires) where
  -- the target toggled by the parity, and given up as 0
  abbrev given_up : Amplitudes
  given_up = with_letters (crossings ws v ++ Take v false ∷ []) g

  given_up_at : (b : Bool) → is_odd ws x ≡ b → has x v ≡ false → given_up x ≡ g (put x v b)
  given_up_at b odd hv =
      ap (λ (f : Amplitudes). f x) (with_letters-append (crossings ws v) (Take v false ∷ []) g)
      ∙ rw hv (with_letters-crossings_at ws v l g x false) ∙ ap (λ t. g (put x v t)) (alone (is_odd ws x) ∙ odd)
    where
      alone : (a : Bool) → differing a false ≡ a
      alone true = refl
      alone false = refl

  given_up_one : has x v ≡ true → given_up x ≡ zero_number
  given_up_one hv = ap (λ (f : Amplitudes). f x) (with_letters-append (crossings ws v) (Take v false ∷ []) g) ∙ rw hv refl

  module _ (parity : IsParityOf g v ws) where
    -- the branch in which v is not the parity
    wrong_branch : (b : Bool) → is_odd ws x ≡ not b → g (put x v b) ≡ zero_number
    wrong_branch b odd = parity (put x v b) (let h = has-put_same x v b in let o = is_odd-put ws x v b l ∙ odd in rw (h, o) (opposite b))
      where
        opposite : (b : Bool) → differing b (not b) ≡ true
        opposite true = refl
        opposite false = refl

    folded : (m b : Bool) → is_odd ws x ≡ b → has x v ≡ false
        → with_letters (Had v ∷ Take v m ∷ []) g x ≡ with_letters (letters_if m (signs ws)) given_up x
    unfolding sign_of
    folded true true odd hv =
        let z = wrong_branch false odd in
        let e = with_letters-signs ws given_up x ∙ ap (λ t. sign_of t (given_up x)) odd ∙ ap negative (given_up_at true odd hv) in
        rw e (simp (has-put_same, put_twice, hv, z, zero-minus))
    folded true false odd hv =
        let z = wrong_branch true odd in
        let e = with_letters-signs ws given_up x ∙ ap (λ t. sign_of t (given_up x)) odd ∙ given_up_at false odd hv in
        rw e (simp (has-put_same, put_twice, hv, z, minus-zero))
    folded false true odd hv = let z = wrong_branch false odd in let e = given_up_at true odd hv in rw e (simp (has-put_same, put_twice, hv, z, zero-plus))
    folded false false odd hv = let z = wrong_branch true odd in let e = given_up_at false odd hv in rw e (simp (has-put_same, put_twice, hv, z, plus-zero))

    folded_one : (m : Bool) → has x v ≡ true → zero_number ≡ with_letters (letters_if m (signs ws)) given_up x
    folded_one true hv = sym (with_letters-signs ws given_up x ∙ ap (sign_of (is_odd ws x)) (given_up_one hv) ∙ sign_of-zero (is_odd ws x))
    folded_one false hv = sym (given_up_one hv)

    folded_at : (m c : Bool) → has x v ≡ c → with_letters (Had v ∷ Take v m ∷ []) g x ≡ with_letters (letters_if m (signs ws)) given_up x
    folded_at m true hv = rw hv (folded_one m hv)
    folded_at m false hv = folded m (is_odd ws x) refl hv

-- a wire that is the parity of others, measured by the sign: the others cross it to 0, and their signs change where the outcome is 1
pub with_letters-parity : (g : Amplitudes) (v : Wire) (ws : List Wire) → Lacks ws v → IsParityOf g v ws → (m : Bool)
    → with_letters (Had v ∷ Take v m ∷ []) g ≡ with_letters (crossings ws v ++ Take v false ∷ letters_if m (signs ws)) g
with_letters-parity g v ws l parity m =
    fun_ext (λ x. folded_at g v ws l x parity m (has x v) refl)
    ∙ ap (with_letters (letters_if m (signs ws))) (with_letters-append (crossings ws v) (Take v false ∷ []) g)
    ∙ sym (with_letters-append (crossings ws v) (Take v false ∷ letters_if m (signs ws)) g)

IsParityOf-one : (g : Amplitudes) (v w : Wire) → Agree g v w → IsParityOf g w (v ∷ [])
IsParityOf-one g v w agree x e = agree x (turned (has x w) (has x v) e)
  where
    turned : (b a : Bool) → differing b (differing a false) ≡ true → differing a b ≡ true
    turned true true e = e
    turned true false e = refl
    turned false true e = refl
    turned false false e = e

-- an uncopy of w, which is equal to v
pub with_letters-uncopy : (g : Amplitudes) (v w : Wire) → v ≢ w → Agree g v w → (m : Bool)
    → with_letters (Had w ∷ Take w m ∷ []) g ≡ with_letters (Cx v w ∷ Take w false ∷ letter_if m (Phase 4 v)) g
with_letters-uncopy g v w ne agree m = with_letters-parity g w (v ∷ []) (ne, tt) (IsParityOf-one g v w agree) m

-- ---- what is left after the wire was taken
-- crossed by the wires of which it is the parity, a wire is blank
pub IsBlankIn-crossings : (g : Amplitudes) (v : Wire) (ws : List Wire) → Lacks ws v → IsParityOf g v ws → IsBlankIn (with_letters (crossings ws v) g) v
IsBlankIn-crossings g v ws l parity x hv =
    with_letters-crossings ws v l g x ∙ ap (λ b. g (put x v (differing (is_odd ws x) b))) hv ∙ by_parity (is_odd ws x) refl
  where
    by_parity : (b : Bool) → is_odd ws x ≡ b → g (put x v (differing b true)) ≡ zero_number
    by_parity true odd = wrong_branch g v ws l x parity false odd
    by_parity false odd = wrong_branch g v ws l x parity true odd

-- crossed by the wire that it is equal to, a wire is blank
pub IsBlankIn-cross : (g : Amplitudes) (v w : Wire) → v ≢ w → Agree g v w → IsBlankIn (with_letter (Cx v w) g) w
IsBlankIn-cross g v w ne agree = IsBlankIn-crossings g w (v ∷ []) (ne, tt) (IsParityOf-one g v w agree)

-- a blank wire that is given up leaves the amplitudes as they were
pub with_letter-take_blank : (g : Amplitudes) (w : Wire) → IsBlankIn g w → with_letter (Take w false) g ≡ g
with_letter-take_blank g w blank = fun_ext (λ x. by_bit x (has x w) refl)
  where
    by_bit : (x : Wires) (b : Bool) → has x w ≡ b → with_letter (Take w false) g x ≡ g x
    by_bit x true h = rw h (sym (blank x h))
    by_bit x false h = let e = put_has x w false h in rw (h, e) refl
