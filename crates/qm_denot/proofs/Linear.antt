-- Letters are linear: they commute with powers of root2, and make equal amplitudes of equal ones
use Rattle.std.proofs.Common.{◌≡◌, ℕ, List, [], ◌∷◌, refl, sym, ap, ap₂, ◌∙◌}
use mathlib.Core.Path.{fun_ext}
use Rattle.qm_zomega.specs.Numbers.{◌⊕◌, root2_times}
use Rattle.qm_zomega.proofs.Laws.Powers.{root2_times-add}
use Rattle.qm_denot.specs.declared.Letter.{Letter}
use Rattle.qm_denot.specs.Wires.{Wires}
use Rattle.qm_denot.specs.Circuits.{Amplitudes, with_letter, with_letters}
use Rattle.qm_denot.proofs.Forms.{root2_times-times, form, with_letter-form}

-- f times root2^n
abbrev pub scaled : ℕ → Amplitudes → Amplitudes
scaled n f x = root2_times n (f x)

-- a letter of root2^n times f is root2^n times the letter of f
pub with_letter-scaled : (l : Letter) (n : ℕ) (f : Amplitudes) (x : Wires) → with_letter l (scaled n f) x ≡ root2_times n (with_letter l f x)
with_letter-scaled l n f x =
    with_letter-form l (scaled n f) x
    ∙ ap₂ (λ y z. y ⊕ z) (sym (root2_times-times n (form l x).first.factor _)) (sym (root2_times-times n (form l x).second.factor _))
    ∙ sym (ap (root2_times n) (with_letter-form l f x) ∙ root2_times-add n _ _)

-- the same of a list of letters
pub with_letters-scaled : (ls : List Letter) (n : ℕ) (f : Amplitudes) → with_letters ls (scaled n f) ≡ scaled n (with_letters ls f)
with_letters-scaled [] n f = refl
with_letters-scaled (l ∷ ls) n f = ap (with_letters ls) (fun_ext (with_letter-scaled l n f)) ∙ with_letters-scaled ls n (with_letter l f)

-- equal amplitudes before letters make equal ones after them
pub with_letters-same : (ls : List Letter) (f g : Amplitudes) → ((x : Wires) → f x ≡ g x) → (x : Wires) → with_letters ls f x ≡ with_letters ls g x
with_letters-same ls f g same x = ap (λ (h : Amplitudes). with_letters ls h x) (fun_ext same)
