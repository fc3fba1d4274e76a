-- Where the amplitudes after letters are zero: what a letter doesn't name it doesn't look at, and zeros there stay
use Rattle.std.proofs.Common.{◌≡◌, ◌≢◌, Bool, true, inl, inr, List, [], ◌∷◌, ◌++◌, refl, sym, ap, ◌∙◌}
use Rattle.qm_zomega.specs.Numbers.{zero_number, ◌⊕◌}
use Rattle.qm_zomega.proofs.Laws.Ring.{plus-zero}
use Rattle.qm_zomega.proofs.Laws.Norms.{zero_or_not}
use Rattle.qm_denot.specs.declared.Wire.{Wire}
use Rattle.qm_denot.specs.declared.Letter.{Letter}
use Rattle.qm_denot.specs.declared.Letter.TheVariants.{Take, Rename}
use Rattle.qm_denot.specs.Wires.{Wires, has}
use Rattle.qm_denot.specs.WireLists.{Lacks}
use Rattle.qm_denot.specs.Weights.{names}
use Rattle.qm_denot.specs.Circuits.{Amplitudes, Circuit, with_letter, with_letters, at_start, amp, IsBlankIn, IsBlank}
use Rattle.qm_denot.proofs.Sets.{not_empty}
use Rattle.qm_denot.proofs.Agreement.{LettersApart, AgreeOn, AgreeOn-trans, AgreeOn-refl, LettersApart-unnamed}
use Rattle.qm_denot.proofs.Amplitudes.{amp-append}
use Rattle.qm_denot.proofs.Forms.{times, times-zero, value, form, written, with_letter-form, form_apart, AgreeOn-written}

-- a letter makes zero of zeros
pub with_letter-zero : (l : Letter) (f : Amplitudes) (x : Wires)
    → f (written x (form l x).first.writes) ≡ zero_number → f (written x (form l x).second.writes) ≡ zero_number → with_letter l f x ≡ zero_number
with_letter-zero l f x first second =
    let s = (form l x).first.factor in
    let r = (form l x).second.factor in
    with_letter-form l f x
    ∙ ap (λ z. z ⊕ value (form l x).second f x) (ap (times s) first ∙ times-zero s)
    ∙ ap (λ z. zero_number ⊕ z) (ap (times r) second ∙ times-zero r)
    ∙ plus-zero zero_number

-- letters make zeros of zeros
pub with_letters-zero : (ls : List Letter) (f : Amplitudes) → ((x : Wires) → f x ≡ zero_number) → (x : Wires) → with_letters ls f x ≡ zero_number
with_letters-zero [] f zeros x = zeros x
with_letters-zero (l ∷ ls) f zeros x = with_letters-zero ls (with_letter l f) (λ y. with_letter-zero l f y (zeros _) (zeros _)) x

-- y agrees with x on each list that no operand is in
abbrev pub AgreeOff : List Letter → Wires → Wires → Type 0
AgreeOff ls x y = (ws : List Wire) → LettersApart ls ws → AgreeOn ws x y

-- an amplitude after letters that isn't zero comes from one before them at a set that agrees off their operands
pub nonzero_before : (ls : List Letter) (f : Amplitudes) (x : Wires) → with_letters ls f x ≢ zero_number
    → (y : Wires) × AgreeOff ls x y × (f y ≢ zero_number)
nonzero_before [] f x some = (x, (λ ws apart. AgreeOn-refl ws x), some)
nonzero_before (l ∷ ls) f x some = one_more (nonzero_before ls (with_letter l f) x some)
  where
    one_more : ((y : Wires) × AgreeOff ls x y × (with_letter l f y ≢ zero_number)) → (y : Wires) × AgreeOff (l ∷ ls) x y × (f y ≢ zero_number)
    one_more found =
        let y = found.0 in
        let first = written y (form l y).first.writes in
        let second = written y (form l y).second.writes in
        elim (zero_or_not (f first)) [
          | inr n ↦ (first, (λ ws a. AgreeOn-trans ws x y first (found.1 ws a.1) (AgreeOn-written ws y _ (form_apart l y ws a.0).0)), n)
          | inl e ↦ elim (zero_or_not (f second)) [
            | inr n ↦ (second, (λ ws a. AgreeOn-trans ws x y second (found.1 ws a.1) (AgreeOn-written ws y _ (form_apart l y ws a.0).1)), n)
            | inl g ↦ absurd (found.2 (with_letter-zero l f y e g))
          ]
        ]

-- ---- sectors: tests on sets of wires
abbrev pub Sector : Type 0
Sector = Wires → Bool

-- the test goes by the wires of the list alone
abbrev pub LooksAt : Sector → List Wire → Type 0
LooksAt s ws = (x y : Wires) → AgreeOn ws x y → s x ≡ s y

-- f is zero at each set that passes the test
abbrev pub IsZeroOn : Sector → Amplitudes → Type 0
IsZeroOn s f = (x : Wires) → s x ≡ true → f x ≡ zero_number

-- letters off the wires that a test looks at keep zeros on it
pub IsZeroOn-with_letters : (s : Sector) (ws : List Wire) → LooksAt s ws → (ls : List Letter) → LettersApart ls ws
    → (f : Amplitudes) → IsZeroOn s f → IsZeroOn s (with_letters ls f)
IsZeroOn-with_letters s ws looks [] apart f zeros = zeros
IsZeroOn-with_letters s ws looks (l ∷ ls) apart f zeros = IsZeroOn-with_letters s ws looks ls apart.1 (with_letter l f) (λ x passes.
    let a = form_apart l x ws apart.0 in
    with_letter-zero l f x
    (zeros _ (sym (looks x _ (AgreeOn-written ws x _ a.0)) ∙ passes))
    (zeros _ (sym (looks x _ (AgreeOn-written ws x _ a.1)) ∙ passes)))

-- ---- blank wires
-- letters that don't name a blank wire leave it blank
pub IsBlankIn-with_letters : (ls : List Letter) (w : Wire) → LettersApart ls (w ∷ []) → (f : Amplitudes) → IsBlankIn f w → IsBlankIn (with_letters ls f) w
IsBlankIn-with_letters ls w apart f blank = IsZeroOn-with_letters (λ x. has x w) (w ∷ []) (λ x y a. a.0) ls apart f blank

-- letters after C that do not name a wire leave it blank
pub IsBlank-append : (c ls : List Letter) (w : Wire) → LettersApart ls (w ∷ []) → IsBlank c w → IsBlank (c ++ ls) w
IsBlank-append c ls w apart blank x h =
    ap (λ (f : Amplitudes). f x) (amp-append c ls) ∙ IsBlankIn-with_letters ls w apart (amp c) blank x h

-- a wire that no letter of C names is blank in C
pub IsBlank-unnamed : (c : Circuit) (w : Wire) → Lacks (names c) w → IsBlank c w
unfolding amp
IsBlank-unnamed c w l = IsBlankIn-with_letters c w (LettersApart-unnamed c w l) at_start (λ x h. let e = not_empty x w h in rw e refl)

-- a wire that was taken is blank
pub IsBlankIn-take : (f : Amplitudes) (w : Wire) (m : Bool) → IsBlankIn (with_letter (Take w m) f) w
IsBlankIn-take f w m x h = rw h refl

-- the old name of a wire that was renamed is blank
pub IsBlankIn-rename : (f : Amplitudes) (a b : Wire) → IsBlankIn (with_letter (Rename a b) f) a
IsBlankIn-rename f a b x h = rw h refl
