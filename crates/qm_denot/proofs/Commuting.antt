-- Letters with no operand in common may change places
use Rattle.std.proofs.Common.{◌≡◌, List, [], ◌∷◌, ◌++◌, refl, sym, ap, ap₂, ◌∙◌, add_comm}
use mathlib.Core.Path.{fun_ext}
use Rattle.qm_zomega.specs.Numbers.{◌⊕◌}
use Rattle.qm_zomega.proofs.Laws.Ring.{plus-plus_swap}
use Rattle.qm_denot.specs.declared.Wire.{Wire}
use Rattle.qm_denot.specs.declared.Letter.{Letter}
use Rattle.qm_denot.specs.Wires.{Wires}
use Rattle.qm_denot.specs.WireLists.{Lacks}
use Rattle.qm_denot.specs.Weights.{operands}
use Rattle.qm_denot.specs.Circuits.{Amplitudes, Circuit, with_letter, with_letters, amp, halvings}
use Rattle.qm_denot.proofs.Agreement.{Apart, LettersApart, apart_one, apart_sym}
use Rattle.qm_denot.proofs.Amplitudes.{with_letters-append, amp-append, halvings-append}
use Rattle.qm_denot.proofs.Forms.{Term, Form, WritesApart, times, times-plus, times_swap, value, form, written, written_swap, with_letter-form, form_apart, form-written}

-- a term of a term
abbrev both : Term → Term → Amplitudes → Amplitudes
both s t f x = times s.factor (times t.factor (f (written (written x s.writes) t.writes)))

-- a term at a set that the letter l doesn't tell from x
value_after : (l : Letter) (f : Amplitudes) (x : Wires) (t : Term) → WritesApart t.writes (operands l)
    → value t (with_letter l f) x ≡ both t (form l x).first f x ⊕ both t (form l x).second f x
value_after l f x t apart =
    let y = written x t.writes in
    ap (times t.factor) (with_letter-form l f y ∙ ap (λ (r : Form). value r.first f y ⊕ value r.second f y) (form-written l x t.writes apart))
    ∙ times-plus t.factor _ _

-- both letters' terms at once
four_terms : (l k : Letter) → Apart (operands k) (operands l) → (f : Amplitudes) (x : Wires)
    → with_letter k (with_letter l f) x
    ≡ (both (form k x).first (form l x).first f x ⊕ both (form k x).first (form l x).second f x)
    ⊕ (both (form k x).second (form l x).first f x ⊕ both (form k x).second (form l x).second f x)
four_terms l k apart f x =
    let off = form_apart k x (operands l) apart in
    let a = value_after l f x (form k x).first off.0 in
    let b = value_after l f x (form k x).second off.1 in
    with_letter-form k (with_letter l f) x ∙ ap₂ (λ y z. y ⊕ z) a b

both_swap : (s t : Term) (ws : List Wire) → ((v : Wire) → Lacks ws v → WritesApart t.writes (v ∷ [])) → WritesApart s.writes ws
    → (f : Amplitudes) (x : Wires) → both s t f x ≡ both t s f x
both_swap s t ws inside apart f x =
    times_swap s.factor t.factor _ ∙ ap (λ y. times t.factor (times s.factor (f y))) (written_swap ws t.writes inside x s.writes apart)

-- letters with no operand in common may change places
pub with_letter_swap : (l k : Letter) → Apart (operands l) (operands k) → (f : Amplitudes) (x : Wires)
    → with_letter k (with_letter l f) x ≡ with_letter l (with_letter k f) x
with_letter_swap l k apart f x =
    let apart' = apart_sym (operands l) (operands k) apart in
    let off = form_apart k x (operands l) apart' in
    let of_first = λ (v : Wire) (n : Lacks (operands l) v). (form_apart l x (v ∷ []) (apart_one (operands l) v n)).0 in
    let of_second = λ (v : Wire) (n : Lacks (operands l) v). (form_apart l x (v ∷ []) (apart_one (operands l) v n)).1 in
    let a = both_swap (form k x).first (form l x).first (operands l) of_first off.0 f x in
    let b = both_swap (form k x).first (form l x).second (operands l) of_second off.0 f x in
    let c = both_swap (form k x).second (form l x).first (operands l) of_first off.1 f x in
    let d = both_swap (form k x).second (form l x).second (operands l) of_second off.1 f x in
    four_terms l k apart' f x ∙ rw (a, b, c, d) (plus-plus_swap _ _ _ _) ∙ sym (four_terms k l apart f x)

-- a letter may be taken before letters that don't name its operands
pub with_letters_swap-one : (l : Letter) (ks : List Letter) → LettersApart ks (operands l) → (f : Amplitudes)
    → with_letter l (with_letters ks f) ≡ with_letters ks (with_letter l f)
with_letters_swap-one l [] apart f = refl
with_letters_swap-one l (k ∷ ks) apart f =
    with_letters_swap-one l ks apart.1 (with_letter k f) ∙ ap (with_letters ks) (fun_ext (with_letter_swap k l apart.0 f))

-- no operand of the first letters is one of the second
abbrev pub AllApart : List Letter → List Letter → Type 0
AllApart [] ks = Unit {0}
AllApart (l ∷ ls) ks = LettersApart ks (operands l) × AllApart ls ks

-- lists of letters with no operand in common may change places
pub with_letters_swap : (ls ks : List Letter) → AllApart ls ks → (f : Amplitudes) → with_letters (ls ++ ks) f ≡ with_letters (ks ++ ls) f
with_letters_swap ls ks apart f = with_letters-append ls ks f ∙ past ls apart f ∙ sym (with_letters-append ks ls f)
  where
    past : (ls : List Letter) → AllApart ls ks → (f : Amplitudes) → with_letters ks (with_letters ls f) ≡ with_letters ls (with_letters ks f)
    past [] apart f = refl
    past (l ∷ ls) apart f = past ls apart.1 (with_letter l f) ∙ ap (with_letters ls) (sym (with_letters_swap-one l ks apart.0 f))

-- halvings do not depend on the order of two lists
pub halvings_swap : (ls ks : List Letter) → halvings (ls ++ ks) ≡ halvings (ks ++ ls)
halvings_swap ls ks = halvings-append ls ks ∙ add_comm (halvings ls) (halvings ks) ∙ sym (halvings-append ks ls)

-- such lists may change places at the end of a circuit
pub swapped_end : (c : Circuit) (ls ks : List Letter) → AllApart ls ks → amp ((c ++ ls) ++ ks) ≡ amp ((c ++ ks) ++ ls)
swapped_end c ls ks apart = order ls ks ∙ with_letters_swap ls ks apart (amp c) ∙ sym (order ks ls)
  where
    order : (ls ks : List Letter) → amp ((c ++ ls) ++ ks) ≡ with_letters (ls ++ ks) (amp c)
    order ls ks = amp-append (c ++ ls) ks ∙ ap (with_letters ks) (amp-append c ls) ∙ sym (with_letters-append ls ks (amp c))
