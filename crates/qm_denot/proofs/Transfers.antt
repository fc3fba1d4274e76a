-- Tests on amplitudes carry over between circuits that are equal up to a power of root2, and over unitary letters off their wires
use Rattle.std.proofs.Common.{◌≡◌, ◌≢◌, ◌↔◌, ℕ, ◌+◌, true, List, ◌++◌, sym, ap, ◌∙◌}
use Rattle.qm_zomega.specs.Numbers.{zero_number, root2_times}
use Rattle.qm_zomega.proofs.Laws.Powers.{root2_times-zero, zero_where_root2_times-zero}
use Rattle.qm_denot.specs.declared.Wire.{Wire}
use Rattle.qm_denot.specs.declared.Letter.{Letter}
use Rattle.qm_denot.specs.Wires.{Wires}
use Rattle.qm_denot.specs.Circuits.{Amplitudes, Circuit, with_letters, amp, halvings, IsEqualUpTo}
use Rattle.qm_denot.proofs.Agreement.{LettersApart}
use Rattle.qm_denot.proofs.Amplitudes.{amp-append}
use Rattle.qm_denot.proofs.Support.{Sector, LooksAt, IsZeroOn, IsZeroOn-with_letters, AgreeOff, nonzero_before}
use Rattle.qm_denot.proofs.Inverses.{AllUnitary, reversed, with_letters-reversed, LettersApart-reversed}

-- ---- circuits that are equal up to p are zero at the same sets
module _ (p : ℕ) (c m : Circuit) (equal : IsEqualUpTo p c m) where
  -- the same amplitudes are zero
  pub zero_where_equal : (x : Wires) → amp c x ≡ zero_number ↔ amp m x ≡ zero_number
  zero_where_equal x = (
    (λ e. zero_where_root2_times-zero (halvings c) _ (sym (equal x) ∙ ap (root2_times (halvings m + p)) e ∙ root2_times-zero (halvings m + p))),
    (λ e. zero_where_root2_times-zero (halvings m + p) _ (equal x ∙ ap (root2_times (halvings c)) e ∙ root2_times-zero (halvings c))),
  )

  -- the same tests find zeros alone
  pub IsZeroOn-equal : (s : Sector) → IsZeroOn s (amp c) ↔ IsZeroOn s (amp m)
  IsZeroOn-equal s = ((λ zeros x h. (zero_where_equal x).0 (zeros x h)), (λ zeros x h. (zero_where_equal x).1 (zeros x h)))

-- ---- unitary letters
-- unitary letters off the wires that a test looks at keep zeros on it, and bring none
pub IsZeroOn-unitary : (s : Sector) (ws : List Wire) → LooksAt s ws → (ls : List Letter) → AllUnitary ls → LettersApart ls ws
    → (f : Amplitudes) → IsZeroOn s f ↔ IsZeroOn s (with_letters ls f)
IsZeroOn-unitary s ws looks ls u apart f = (
  IsZeroOn-with_letters s ws looks ls apart f,
  (λ zeros x h. zero_where_root2_times-zero (halvings ls + halvings ls) _ (
      sym (with_letters-reversed ls u f x)
      ∙ IsZeroOn-with_letters s ws looks (reversed ls) (LettersApart-reversed ls ws apart) (with_letters ls f) zeros x h)),
)

-- an amplitude that isn't zero leaves one after unitary letters, at a set that agrees off their operands
pub nonzero_after : (ls : List Letter) → AllUnitary ls → (f : Amplitudes) (y : Wires) → f y ≢ zero_number
    → (x : Wires) × AgreeOff ls y x × (with_letters ls f x ≢ zero_number)
nonzero_after ls u f y some =
    let still : with_letters (reversed ls) (with_letters ls f) y ≢ zero_number =
    λ e. some (zero_where_root2_times-zero (halvings ls + halvings ls) _ (sym (with_letters-reversed ls u f y) ∙ e)) in
    let found = nonzero_before (reversed ls) (with_letters ls f) y still in
    (found.0, (λ ws apart. found.1 ws (LettersApart-reversed ls ws apart)), found.2)

-- ---- a circuit that is equal to another one and unitary letters, and a test that looks off these
-- f is not zero at some set that passes the test
abbrev pub IsSomeOn : Sector → Amplitudes → Type 0
IsSomeOn s f = (x : Wires) × (s x ≡ true) × (f x ≢ zero_number)

module _ (p : ℕ) (c m ls : Circuit) (equal : IsEqualUpTo p c (m ++ ls)) (u : AllUnitary ls)
    (s : Sector) (ws : List Wire) (looks : LooksAt s ws) (apart : LettersApart ls ws) where
  -- C is zero on the test exactly where the other circuit is
  pub IsZeroOn-transfer : IsZeroOn s (amp c) ↔ IsZeroOn s (amp m)
  IsZeroOn-transfer =
      let e = amp-append m ls in
      let a = IsZeroOn-equal p c (m ++ ls) equal s in
      let b = IsZeroOn-unitary s ws looks ls u apart (amp m) in (
        (λ zeros. b.1 (rw e at (a.0 zeros))),
        (λ zeros. a.1 (rw e (b.0 zeros))),
      )

  -- C is not zero somewhere on the test exactly where the other circuit is not
  pub IsSomeOn-transfer : IsSomeOn s (amp c) ↔ IsSomeOn s (amp m)
  IsSomeOn-transfer = (
    (λ some.
        let x = some.0 in
        let there : with_letters ls (amp m) x ≢ zero_number =
        λ e. some.2 ((zero_where_equal p c (m ++ ls) equal x).1 (ap (λ (f : Amplitudes). f x) (amp-append m ls) ∙ e)) in
        let found = nonzero_before ls (amp m) x there in
        (found.0, sym (looks x found.0 (found.1 ws apart)) ∙ some.1, found.2)),
    (λ some.
        let y = some.0 in
        let found = nonzero_after ls u (amp m) y some.2 in (
          found.0,
          sym (looks y found.0 (found.1 ws apart)) ∙ some.1,
          (λ e. found.2 (sym (ap (λ (f : Amplitudes). f found.0) (amp-append m ls)) ∙ (zero_where_equal p c (m ++ ls) equal found.0).0 e)),
        )),
  )
