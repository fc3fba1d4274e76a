-- Copies of a qubit, each made from the qubit or from a copy that was made before, and given up in such an order
use Rattle.std.proofs.Common.{◌≡◌, ◌≢◌, ◌∙◌, ◌⊎◌, inl, inr, ◌<◌, Bool, true, false, not, cond, ◌&&◌, List, [], ◌∷◌, refl, sym, ap, subst, arith}
use mathlib.Core.Path.{fun_ext}
use Rattle.qm_zomega.specs.Numbers.{Number, zero_number}
use Rattle.qm_denot.specs.declared.Wire.{Wire}
use Rattle.qm_denot.specs.declared.Letter.TheVariants.{Cx, Take}
use Rattle.qm_denot.specs.Wires.{Wires, has, put, toggled}
use Rattle.qm_denot.specs.WireLists.{Lacks}
use Rattle.qm_denot.specs.Places.{without}
use Rattle.qm_denot.specs.Circuits.{Amplitudes, IsBlankIn, same_bit, with_letter, with_letters}
use Rattle.qm_denot.specs.Collectives.{are_all, copied_onto}
use Rattle.qm_denot.proofs.Sets.{has-put_other}
use Rattle.qm_denot.proofs.CollectiveLaws.{with_letters-broadcasting, with_letters-unbroadcasting}
use Rattle.qm_denot.proofs.NameLists.{not_sym}
use Rattle.qm_tree.proofs.Counts.{times, times-more, none-lacks, not-all}

-- a wire is the qubit, or one of these copies of it
abbrev pub IsSource : Wire → List Wire → Wire → Type 0
IsSource q cs s = (s ≡ q) ⊎ (0 < times s cs)

has-without : (cs : List Wire) (x : Wires) (c : Wire) → Lacks cs c → has (without x cs) c ≡ has x c
has-without [] x c l = refl
has-without (d ∷ cs) x c l = has-without cs (put x d false) c l.1 ∙ has-put_other x d false c (not_sym l.0)

are_all-put : (cs : List Wire) (b : Bool) (x : Wires) (c : Wire) (t : Bool) → Lacks cs c → are_all b cs (put x c t) ≡ are_all b cs x
are_all-put [] b x c t l = refl
are_all-put (d ∷ cs) b x c t l = let h = has-put_other x c t d l.0 in let r = are_all-put cs b x c t l.1 in rw (h, r) refl

module _ (f : Amplitudes) (q : Wire) where
  -- a wire that isn't among the copies stays blank
  blank-copied : (cs : List Wire) (c : Wire) → Lacks cs c → IsBlankIn f c → IsBlankIn (copied_onto cs q f) c
  blank-copied cs c l blank x h =
      let z = blank (without x cs) (has-without cs x c l ∙ h) in
      ap (λ y. cond (are_all (has x q) cs x) y zero_number) z ∙ either (are_all (has x q) cs x)
    where
      either : (b : Bool) → cond b zero_number zero_number ≡ zero_number
      either true = refl
      either false = refl

  both : (a b : Bool) (z : Number) → cond (a && true) (cond b z zero_number) zero_number ≡ cond (a && b) z zero_number
  both true b z = refl
  both false b z = refl

  module _ (cs : List Wire) (c : Wire) (l : Lacks cs c) (other : c ≢ q) (blank : IsBlankIn f c) where
    -- one copy more, made from the qubit itself
    pub copied-more : with_letter (Cx q c) (copied_onto cs q f) ≡ copied_onto (c ∷ cs) q f
    copied-more =
        with_letters-broadcasting (c ∷ []) q (other, tt) (tt, tt) (copied_onto cs q f) (blank-copied cs c l blank, tt)
        ∙ fun_ext (λ x.
        let y = put x c false in
        ap (λ b. cond (same_bit (has x c) (has x q) && true) (cond (are_all b cs y) (f (without y cs)) zero_number) zero_number) (has-put_other x c false q (not_sym other))
        ∙ ap (λ b. cond (same_bit (has x c) (has x q) && true) (cond b (f (without y cs)) zero_number) zero_number) (are_all-put cs (has x q) x c false l)
        ∙ both (same_bit (has x c) (has x q)) (are_all (has x q) cs x) (f (without y cs)))

    -- the last copy given up
    pub copied-less : with_letters (Cx q c ∷ Take c false ∷ []) (copied_onto (c ∷ cs) q f) ≡ copied_onto cs q f
    copied-less =
        ap (with_letters (Cx q c ∷ Take c false ∷ [])) (sym copied-more)
        ∙ with_letters-unbroadcasting (c ∷ []) q (other, tt) (tt, tt) (copied_onto cs q f) (blank-copied cs c l blank, tt)

  -- where the qubit and a copy of it differ the amplitude is zero
  zero-apart : (cs : List Wire) (s : Wire) → 0 < times s cs → (x : Wires) → same_bit (has x s) (has x q) ≡ false → copied_onto cs q f x ≡ zero_number
  zero-apart cs s some x apart = ap (λ b. cond b (f (without x cs)) zero_number) (not-all cs (has x q) x s some apart)

  -- a controlled-not from a copy is one from the qubit
  from-copy : (cs : List Wire) (s c : Wire) → 0 < times s cs → s ≢ c → q ≢ c
      → with_letter (Cx s c) (copied_onto cs q f) ≡ with_letter (Cx q c) (copied_onto cs q f)
  from-copy cs s c some sc qc = fun_ext (λ x. by_bits x (has x s) (has x q) refl refl)
    where
      g : Amplitudes
      g = copied_onto cs q f

      moved : (x : Wires) (a b : Bool) → has x s ≡ a → has x q ≡ b → same_bit a b ≡ false → g (toggled x c) ≡ zero_number
      moved x a b hs hq apart =
          zero-apart cs s some (toggled x c)
          (ap (λ t. same_bit t (has (toggled x c) q)) (has-put_other x c (not (has x c)) s sc ∙ hs)
          ∙ ap (same_bit a) (has-put_other x c (not (has x c)) q qc ∙ hq) ∙ apart)

      stays : (x : Wires) (a b : Bool) → has x s ≡ a → has x q ≡ b → same_bit a b ≡ false → g x ≡ zero_number
      stays x a b hs hq apart = zero-apart cs s some x (ap (λ t. same_bit t (has x q)) hs ∙ ap (same_bit a) hq ∙ apart)

      same : (x : Wires) (a b : Bool) → has x s ≡ a → has x q ≡ b → cond a (g (toggled x c)) (g x) ≡ cond b (g (toggled x c)) (g x)
      same x true true hs hq = refl
      same x false false hs hq = refl
      same x true false hs hq = moved x true false hs hq refl ∙ sym (stays x true false hs hq refl)
      same x false true hs hq = stays x false true hs hq refl ∙ sym (moved x false true hs hq refl)

      by_bits : (x : Wires) (a b : Bool) → has x s ≡ a → has x q ≡ b → cond (has x s) (g (toggled x c)) (g x) ≡ cond (has x q) (g (toggled x c)) (g x)
      by_bits x a b hs hq =
          ap (λ t. cond t (g (toggled x c)) (g x)) hs ∙ same x a b hs hq ∙ sym (ap (λ t. cond t (g (toggled x c)) (g x)) hq)

  module _ (cs : List Wire) (c : Wire) (none : times c cs ≡ 0) (other : c ≢ q) (blank : IsBlankIn f c) (s : Wire) where
    apart : 0 < times s cs → s ≢ c
    apart some e = let n : times s cs ≡ 0 = subst (λ u. times u cs ≡ 0) (sym e) none in omega (arith, some, n)

    -- one copy more, from wherever it is made
    pub one-down : IsSource q cs s → with_letter (Cx s c) (copied_onto cs q f) ≡ copied_onto (c ∷ cs) q f
    one-down (inl e) = ap (λ u. with_letter (Cx u c) (copied_onto cs q f)) e ∙ copied-more cs c (none-lacks c cs none) other blank
    one-down (inr some) = from-copy cs s c some (apart some) (not_sym other) ∙ copied-more cs c (none-lacks c cs none) other blank

    -- one copy less, to wherever it goes back
    pub one-up : IsSource q cs s → with_letters (Cx s c ∷ Take c false ∷ []) (copied_onto (c ∷ cs) q f) ≡ copied_onto cs q f
    one-up (inl e) = ap (λ u. with_letters (Cx u c ∷ Take c false ∷ []) (copied_onto (c ∷ cs) q f)) e ∙ copied-less cs c (none-lacks c cs none) other blank
    one-up (inr some) =
        ap (with_letter (Take c false)) (from-copy (c ∷ cs) s c (let more = times-more c s cs in omega (arith, some, more)) (apart some) (not_sym other))
        ∙ copied-less cs c (none-lacks c cs none) other blank
