-- The laws of the quantum messages, and of their halves, for every circuit
use Rattle.std.proofs.Common.{◌≡◌, ◌≢◌, ℕ, ◌+◌, Bool, true, false, List, [], ◌∷◌, ◌++◌, refl, sym, ap, ◌∙◌, arith}
use mathlib.Core.Path.{fun_ext}
use Rattle.qm_denot.specs.declared.Wire.{Wire}
use Rattle.qm_denot.specs.declared.Letter.{Letter}
use Rattle.qm_denot.specs.declared.Letter.TheVariants.{Phase, Flip, Had, Cx, Pair, Take, Rename}
use Rattle.qm_denot.specs.WireLists.{Lacks}
use Rattle.qm_denot.specs.Circuits.{Amplitudes, Circuit, with_letter, with_letters, amp, halvings, IsBlank, IsBlankIn, IsEqualUpTo}
use Rattle.qm_denot.specs.Protocols.{letters_if, letter_if, copying, uncopying, moving, reaching, crossings, signs, folding, is_odd, Agree, IsParityOf}
use Rattle.qm_denot.proofs.Amplitudes.{with_letters-append, halvings-append}
use Rattle.qm_denot.proofs.EqualUpTo.{equal_after_same}
use Rattle.qm_denot.proofs.Inverses.{with_letters-flip_twice}
use Rattle.qm_denot.proofs.Copies.{with_letter-pair, with_letters-pair_copy, with_letters-copy, with_letters-near}
use Rattle.qm_denot.proofs.Parities.{sign_of, sign_of_twice, with_letters-signs, with_letters-parity, with_letters-uncopy}
use Rattle.qm_denot.proofs.Moves.{with_letters-move, with_letters-reach}
use Rattle.qm_denot.proofs.NameLists.{not_sym}

-- ---- halvings
halvings-if : (m : Bool) (ls : List Letter) → halvings ls ≡ 0 → halvings (letters_if m ls) ≡ 0
halvings-if true ls none = none
halvings-if false ls none = refl

halvings-signs : (ws : List Wire) → halvings (signs ws) ≡ 0
halvings-signs [] = refl
halvings-signs (w ∷ ws) = let e = halvings-signs ws in omega arith

pub halvings-crossings : (ws : List Wire) (v : Wire) → halvings (crossings ws v) ≡ 0
halvings-crossings [] v = refl
halvings-crossings (w ∷ ws) v = let e = halvings-crossings ws v in omega arith

-- ---- a correction undoes itself
flips_twice : (m : Bool) (w : Wire) (g : Amplitudes) → with_letters (letter_if m (Flip w)) (with_letters (letter_if m (Flip w)) g) ≡ g
flips_twice m w g = sym (with_letters-append (letter_if m (Flip w)) (letter_if m (Flip w)) g) ∙ fun_ext (with_letters-flip_twice m w g)

signs_twice : (m : Bool) (ws : List Wire) (g : Amplitudes) → with_letters (letters_if m (signs ws)) (with_letters (letters_if m (signs ws)) g) ≡ g
signs_twice true ws g = fun_ext (λ x.
    with_letters-signs ws (with_letters (signs ws) g) x
    ∙ ap (sign_of (is_odd ws x)) (with_letters-signs ws g x)
    ∙ sign_of_twice (is_odd ws x) (g x))
signs_twice false ws g = refl

-- ---- halves of the messages, with the corrections due
-- lists of letters that make the same amplitudes of C's, those of the first list with p halvings more
after_same : (c ls ms : List Letter) (p : ℕ) → halvings ls ≡ halvings ms + p → with_letters ls (amp c) ≡ with_letters ms (amp c)
    → IsEqualUpTo p (c ++ ls) (c ++ ms)
after_same c ls ms p n same = equal_after_same c ls ms p n (λ x. ap (λ (f : Amplitudes). f x) same)

module _ (c : Circuit) (q e f : Wire) (qe : q ≢ e) (qf : q ≢ f) (ef : e ≢ f) (e_blank : IsBlank c e) (f_blank : IsBlank c f) where
  pub equal_pair : IsEqualUpTo 0 (c ++ Pair e f ∷ []) (c ++ Had f ∷ Cx f e ∷ [])
  equal_pair = after_same c _ _ 0 refl (with_letter-pair (amp c) e f ef (not_sym ef) e_blank f_blank)

  pub equal_copy : (m : Bool) → IsEqualUpTo 1 (c ++ Had f ∷ Cx f e ∷ Cx q e ∷ Take e m ∷ []) (c ++ Cx q f ∷ letter_if m (Flip f))
  equal_copy m =
      let n = halvings-if m (Flip f ∷ []) refl in
      after_same c _ _ 1 (omega arith) (with_letters-copy (amp c) e f ef (not_sym ef) e_blank f_blank q qe qf m)

  pub equal_near : (m : Bool) → IsEqualUpTo 1 (c ++ Had f ∷ Cx f e ∷ Cx q e ∷ Had q ∷ Take e m ∷ []) (c ++ Cx q f ∷ (letter_if m (Flip f) ++ Had q ∷ []))
  equal_near m =
      let n = halvings-if m (Flip f ∷ []) refl in
      after_same c _ _ 1 (omega (arith, halvings-append (letter_if m (Flip f)) (Had q ∷ [])))
      (with_letters-near (amp c) e f ef (not_sym ef) e_blank f_blank q qe qf m)

pub equal_parity : (c : Circuit) (v : Wire) (ws : List Wire) → Lacks ws v → IsParityOf (amp c) v ws → (m : Bool)
    → IsEqualUpTo 1 (c ++ Had v ∷ Take v m ∷ []) (c ++ (crossings ws v ++ Take v false ∷ letters_if m (signs ws)))
equal_parity c v ws l parity m =
    let n = halvings-if m (signs ws) (halvings-signs ws) in
    after_same c _ _ 1 (omega (arith, halvings-append (crossings ws v) (Take v false ∷ letters_if m (signs ws)), halvings-crossings ws v))
    (with_letters-parity (amp c) v ws l parity m)

pub equal_uncopy : (c : Circuit) (v w : Wire) → v ≢ w → Agree (amp c) v w → (m : Bool)
    → IsEqualUpTo 1 (c ++ Had w ∷ Take w m ∷ []) (c ++ Cx v w ∷ Take w false ∷ letter_if m (Phase 4 v))
equal_uncopy c v w ne agree m = let n = halvings-if m (Phase 4 v ∷ []) refl in after_same c _ _ 1 (omega arith) (with_letters-uncopy (amp c) v w ne agree m)

pub equal_move : (c : Circuit) (q f : Wire) → q ≢ f → IsBlank c f → (m n : Bool)
    → IsEqualUpTo 1 (c ++ Cx q f ∷ (letter_if m (Flip f) ++ Had q ∷ Take q n ∷ [])) (c ++ Rename q f ∷ (letter_if n (Phase 4 f) ++ letter_if m (Flip f)))
equal_move c q f qf blank m n =
    let a = halvings-if m (Flip f ∷ []) refl in
    let b = halvings-if n (Phase 4 f ∷ []) refl in
    after_same c _ _ 1
    (omega (arith, halvings-append (letter_if m (Flip f)) (Had q ∷ Take q n ∷ []), halvings-append (letter_if n (Phase 4 f)) (letter_if m (Flip f))))
    (with_letters-move (amp c) q f qf blank m n)

pub equal_reach : (c : Circuit) (q f t : Wire) → q ≢ f → q ≢ t → f ≢ t → IsBlank c f → (n : Bool)
    → IsEqualUpTo 1 (c ++ Cx q f ∷ Cx f t ∷ Had f ∷ Take f n ∷ []) (c ++ Cx q t ∷ letter_if n (Phase 4 q))
equal_reach c q f t qf qt ft blank n =
    let a = halvings-if n (Phase 4 q ∷ []) refl in after_same c _ _ 1 (omega arith) (with_letters-reach (amp c) q f t qf qt ft blank n)

-- ---- the whole messages, with their corrections
module _ (g : Amplitudes) (q e f : Wire) (qe : q ≢ e) (qf : q ≢ f) (ef : e ≢ f) (e_blank : IsBlankIn g e) (f_blank : IsBlankIn g f) where
  with_letters-copying : (m : Bool) → with_letters (copying q e f m) g ≡ with_letter (Cx q f) g
  with_letters-copying m =
      ap (with_letters (letter_if m (Flip f))) (with_letters-pair_copy g e f ef (not_sym ef) e_blank f_blank q qe qf m) ∙ flips_twice m f (with_letter (Cx q f) g)

  with_letters-moving : (m n : Bool) → with_letters (moving q e f m n) g ≡ with_letter (Rename q f) g
  with_letters-moving m n =
      let flips = letter_if m (Flip f) in
      let turns = letter_if n (Phase 4 f) in
      let copied = with_letter (Cx q f) g in
      let renamed = with_letter (Rename q f) g in
      let corrected = λ (h : Amplitudes). with_letters (flips ++ turns) h in
      ap (λ (h : Amplitudes). corrected (with_letters (Cx q e ∷ Had q ∷ Take e m ∷ Take q n ∷ []) h)) (with_letter-pair g e f ef (not_sym ef) e_blank f_blank)
      ∙ ap (λ (h : Amplitudes). corrected (with_letter (Take q n) h)) (with_letters-near g e f ef (not_sym ef) e_blank f_blank q qe qf m)
      ∙ ap (λ (h : Amplitudes). corrected (with_letter (Take q n) h)) (with_letters-append flips (Had q ∷ []) copied)
      ∙ ap corrected (sym (with_letters-append flips (Had q ∷ Take q n ∷ []) copied))
      ∙ ap corrected (with_letters-move g q f qf f_blank m n ∙ with_letters-append turns flips renamed)
      ∙ with_letters-append flips turns (with_letters flips (with_letters turns renamed))
      ∙ ap (with_letters turns) (flips_twice m f (with_letters turns renamed)) ∙ signs_twice n (f ∷ []) renamed

  with_letters-reaching : (t : Wire) → q ≢ t → f ≢ t → (m n : Bool) → with_letters (reaching q e f t m n) g ≡ with_letter (Cx q t) g
  with_letters-reaching t qt ft m n =
      let turns = letter_if n (Phase 4 q) in
      with_letters-append (copying q e f m) (Cx f t ∷ uncopying q f n) g
      ∙ ap (with_letters (Cx f t ∷ uncopying q f n)) (with_letters-copying m)
      ∙ ap (with_letters turns) (with_letters-reach g q f t qf qt ft f_blank n)
      ∙ signs_twice n (q ∷ []) (with_letter (Cx q t) g)

module _ (c : Circuit) (q e f : Wire) (qe : q ≢ e) (qf : q ≢ f) (ef : e ≢ f) (e_blank : IsBlank c e) (f_blank : IsBlank c f) where
  pub equal_copying : (m : Bool) → IsEqualUpTo 1 (c ++ copying q e f m) (c ++ Cx q f ∷ [])
  equal_copying m = let n = halvings-if m (Flip f ∷ []) refl in after_same c _ _ 1 (omega arith) (with_letters-copying (amp c) q e f qe qf ef e_blank f_blank m)

  pub equal_moving : (m n : Bool) → IsEqualUpTo 2 (c ++ moving q e f m n) (c ++ Rename q f ∷ [])
  equal_moving m n =
      let a = halvings-if m (Flip f ∷ []) refl in
      let b = halvings-if n (Phase 4 f ∷ []) refl in
      after_same c _ _ 2 (omega (arith, halvings-append (letter_if m (Flip f)) (letter_if n (Phase 4 f))))
      (with_letters-moving (amp c) q e f qe qf ef e_blank f_blank m n)

  pub equal_reaching : (t : Wire) → q ≢ t → f ≢ t → (m n : Bool) → IsEqualUpTo 2 (c ++ reaching q e f t m n) (c ++ Cx q t ∷ [])
  equal_reaching t qt ft m n =
      let a = halvings-if m (Flip f ∷ []) refl in
      let b = halvings-if n (Phase 4 q ∷ []) refl in
      after_same c _ _ 2 (omega (arith, halvings-append (copying q e f m) (Cx f t ∷ uncopying q f n)))
      (with_letters-reaching (amp c) q e f qe qf ef e_blank f_blank t qt ft m n)

-- the parity of a list measured away
pub equal_folding : (c : Circuit) (v : Wire) (ws : List Wire) → Lacks ws v → IsParityOf (amp c) v ws → (m : Bool)
    → IsEqualUpTo 1 (c ++ folding v ws m) (c ++ (crossings ws v ++ Take v false ∷ []))
equal_folding c v ws l parity m =
    let turns = letters_if m (signs ws) in
    let n = halvings-if m (signs ws) (halvings-signs ws) in
    let given_up = with_letters (crossings ws v ++ Take v false ∷ []) (amp c) in
    after_same c _ _ 1 (omega (arith, halvings-append (crossings ws v) (Take v false ∷ []), halvings-crossings ws v))
    (ap (with_letters turns) (with_letters-parity (amp c) v ws l parity m
    ∙ with_letters-append (crossings ws v) (Take v false ∷ turns) (amp c)
    ∙ ap (with_letters turns) (sym (with_letters-append (crossings ws v) (Take v false ∷ []) (amp c))))
    ∙ signs_twice m ws given_up)

pub equal_uncopying : (c : Circuit) (q f : Wire) → q ≢ f → Agree (amp c) q f → (m : Bool)
    → IsEqualUpTo 1 (c ++ uncopying q f m) (c ++ Cx q f ∷ Take f false ∷ [])
equal_uncopying c q f qf agree m =
    let n = halvings-if m (Phase 4 q ∷ []) refl in
    after_same c _ _ 1 (omega arith) (
    ap (with_letters (letter_if m (Phase 4 q))) (with_letters-uncopy (amp c) q f qf agree m)
    ∙ signs_twice m (q ∷ []) (with_letters (Cx q f ∷ Take f false ∷ []) (amp c)))
