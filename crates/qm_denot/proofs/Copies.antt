-- EPR pairs on blank wires, and copies by them
use Rattle.std.proofs.Common.{◌≡◌, ◌≢◌, Bool, true, false, [], ◌∷◌, ◌++◌, refl, sym, ap, ◌∙◌}
use mathlib.Core.Path.{fun_ext}
use Rattle.qm_zomega.specs.Numbers.{zero_number}
use Rattle.qm_zomega.proofs.Laws.Ring.{plus-zero, minus-zero}
use Rattle.qm_denot.specs.declared.Wire.{Wire}
use Rattle.qm_denot.specs.declared.Letter.TheVariants.{Flip, Had, Cx, Pair, Take}
use Rattle.qm_denot.specs.Wires.{Wires, has, put}
use Rattle.qm_denot.specs.Circuits.{Amplitudes, with_letter, with_letters, IsBlankIn}
use Rattle.qm_denot.specs.Protocols.{letter_if}
use Rattle.qm_denot.proofs.Sets.{has-put_same, has-put_other, put_twice, put_has}
use Rattle.qm_denot.proofs.Amplitudes.{with_letters-append}
use Rattle.qm_denot.proofs.Commuting.{with_letter_swap}
use Rattle.qm_denot.proofs.NameLists.{not_sym}

module _ (g : Amplitudes) (e f : Wire) (ef : e ≢ f) (fe : f ≢ e) (e_blank : IsBlankIn g e) (f_blank : IsBlankIn g f) where
  pair_at : (x : Wires) (xe xf : Bool) → has x e ≡ xe → has x f ≡ xf → with_letter (Pair e f) g x ≡ with_letters (Had f ∷ Cx f e ∷ []) g x
  pair_at x true true he hf = let z = f_blank (put x e false) (has-put_other x e false f fe ∙ hf) in simp (has-put_other, he, hf, z, minus-zero)
  pair_at x false true he hf =
      let z : (b : Bool) → g (put (put x e true) f b) ≡ zero_number = λ b. e_blank _ (has-put_other (put x e true) f b e ef ∙ has-put_same x e true) in
      let y = e_blank (put x e true) (has-put_same x e true) in
      simp (has-put_other, he, hf, z, y, minus-zero)
  pair_at x true false he hf =
      let z = f_blank (put x f true) (has-put_same x f true) in let y = e_blank x he in simp (he, hf, z, y, plus-zero)
  pair_at x false false he hf =
      let z = f_blank (put x f true) (has-put_same x f true) in
      let a = put_has x e false he in let b = put_has x f false hf in
      simp (he, hf, a, b, z, plus-zero)

  -- on blank wires an EPR pair is a Hadamard gate and a controlled-not
  pub with_letter-pair : with_letter (Pair e f) g ≡ with_letters (Had f ∷ Cx f e ∷ []) g
  with_letter-pair = fun_ext (λ x. pair_at x (has x e) (has x f) refl refl)

  module _ (q : Wire) (eq : e ≢ q) (qe : q ≢ e) (qf : q ≢ f) (fq : f ≢ q) (x : Wires) where
    abbrev Copied : Bool → Type 0
    Copied m = with_letters (Pair e f ∷ Cx q e ∷ Take e m ∷ []) g x ≡ with_letters (Cx q f ∷ letter_if m (Flip f)) g x

    module _ (he : has x e ≡ true) where
      no_branch : (b : Bool) → g (put x f b) ≡ zero_number
      no_branch b = e_blank _ (has-put_other x f b e ef ∙ he)

      copied_one : (m xq : Bool) → has x q ≡ xq → Copied m
      copied_one true true hq = simp (has-put_other, he, hq, put_twice, no_branch)
      copied_one true false hq = simp (has-put_other, he, hq, no_branch)
      copied_one false true hq = simp (he, hq, no_branch)
      copied_one false false hq = let y = e_blank x he in simp (he, hq, y)

    module _ (he : has x e ≡ false) where
      no_e : put x e false ≡ x
      no_e = put_has x e false he

      z : g (put x f true) ≡ zero_number
      z = f_blank (put x f true) (has-put_same x f true)

      copied : (m xq xf : Bool) → has x q ≡ xq → has x f ≡ xf → Copied m
      copied true true true hq hf = simp (has-put_same, has-put_other, put_twice, no_e, hf, he, hq, z)
      copied true true false hq hf = simp (has-put_same, has-put_other, put_twice, no_e, hf, he, hq, z)
      copied true false true hq hf = simp (has-put_same, has-put_other, put_twice, no_e, hf, he, hq)
      copied true false false hq hf = simp (has-put_same, has-put_other, put_twice, no_e, hf, he, hq, z)
      copied false true true hq hf = simp (has-put_same, has-put_other, put_twice, no_e, hf, he, hq)
      copied false true false hq hf = simp (has-put_same, has-put_other, put_twice, no_e, hf, he, hq, z)
      copied false false true hq hf = let y = f_blank x hf in simp (no_e, hf, he, hq, y)
      copied false false false hq hf = let p = put_has x f false hf in simp (no_e, hf, he, hq, p)

    copied_at : (m xe : Bool) → has x e ≡ xe → Copied m
    copied_at m true he = copied_one he m (has x q) refl
    copied_at m false he = copied he m (has x q) (has x f) refl refl

  module _ (q : Wire) (qe : q ≢ e) (qf : q ≢ f) where
    -- a copy of q by the pair: q is copied onto f, and f is flipped where the outcome is 1
    pub with_letters-pair_copy : (m : Bool) → with_letters (Pair e f ∷ Cx q e ∷ Take e m ∷ []) g ≡ with_letters (Cx q f ∷ letter_if m (Flip f)) g
    with_letters-pair_copy m = fun_ext (λ x. copied_at q (not_sym qe) qe qf (not_sym qf) x m (has x e) refl)

    pub with_letters-copy : (m : Bool) → with_letters (Had f ∷ Cx f e ∷ Cx q e ∷ Take e m ∷ []) g ≡ with_letters (Cx q f ∷ letter_if m (Flip f)) g
    with_letters-copy m = ap (with_letters (Cx q e ∷ Take e m ∷ [])) (sym with_letter-pair) ∙ with_letters-pair_copy m

    -- the same where q's Hadamard gate stands before the outcome
    pub with_letters-near : (m : Bool)
        → with_letters (Had f ∷ Cx f e ∷ Cx q e ∷ Had q ∷ Take e m ∷ []) g ≡ with_letters (Cx q f ∷ (letter_if m (Flip f) ++ Had q ∷ [])) g
    with_letters-near m =
        fun_ext (with_letter_swap (Had q) (Take e m) ((not_sym qe, tt), tt) (with_letters (Had f ∷ Cx f e ∷ Cx q e ∷ []) g))
        ∙ ap (with_letter (Had q)) (with_letters-copy m)
        ∙ sym (with_letters-append (letter_if m (Flip f)) (Had q ∷ []) (with_letter (Cx q f) g))
