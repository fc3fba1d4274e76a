-- Amplitudes and halvings of letters one after another
use Rattle.std.proofs.Common.{◌≡◌, ◌+◌, List, [], ◌∷◌, ◌++◌, refl, sym, ap, ◌∙◌, add_assoc, arith}
use Rattle.qm_denot.specs.declared.Letter.{Letter}
use Rattle.qm_denot.specs.Wires.{Wires}
use Rattle.qm_denot.specs.Circuits.{Amplitudes, Circuit, with_letter, with_letters, at_start, amp, halves_of, halvings}

-- letters, and letters after them
pub with_letters-append : (ls ms : List Letter) (f : Amplitudes) → with_letters (ls ++ ms) f ≡ with_letters ms (with_letters ls f)
with_letters-append [] ms f = refl
with_letters-append (l ∷ ls) ms f = with_letters-append ls ms (with_letter l f)

-- the letters after C
pub amp-append : (c ls : List Letter) → amp (c ++ ls) ≡ with_letters ls (amp c)
unfolding amp
amp-append c ls = with_letters-append c ls at_start

-- the rule of the last letter
pub amp-push : (c : Circuit) (l : Letter) (x : Wires) → amp (c ++ l ∷ []) x ≡ with_letter l (amp c) x
amp-push c l x = ap (λ (f : Amplitudes). f x) (amp-append c (l ∷ []))

-- the halvings of a circuit and of letters after it
pub halvings-append : (c ls : List Letter) → halvings (c ++ ls) ≡ halvings c + halvings ls
halvings-append [] ls = omega arith
halvings-append (l ∷ c) ls = ap (λ n. halves_of l + n) (halvings-append c ls) ∙ sym (add_assoc (halves_of l) (halvings c) (halvings ls))
