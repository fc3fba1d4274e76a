-- A decidable fact holds at some set of wires at which a circuit's amplitude is not zero, or at none
use Rattle.std.proofs.Common.{◌≡◌, ◌≢◌, ℕ, zero, suc, ◌⊎◌, Bool, true, false, List, inl, inr, refl, sym, ◌∙◌, arith}
use Rattle.qm_zomega.specs.Numbers.{zero_number}
use Rattle.qm_zomega.proofs.Laws.{zero_or_not}
use Rattle.qm_denot.specs.declared.Wire.{Wire}
use Rattle.qm_denot.specs.Circuits.{Circuit, amp}
use Rattle.qm_denot.specs.Weights.{total, names}
use Rattle.qm_denot.specs.WireLists.{Lacks}
use Rattle.qm_denot.specs.Wires.{Wires, no_wires, has}
use Rattle.qm_denot.proofs.Sets.{has-no_wires}
use Rattle.qm_denot.proofs.Support.{IsBlank-unnamed}
use Rattle.qm_denot.proofs.Totals.{term_below_total, term_of_total}

abbrev pub Decided : Type 0 → Type 0
Decided A = A ⊎ (¬ A)

-- the set has wires of the list alone
abbrev pub IsOf : List Wire → Wires → Type 0
IsOf ws x = (w : Wire) → Lacks ws w → has x w ≡ false

zero_or_some : (n : ℕ) → (n ≡ 0) ⊎ (n ≢ 0)
zero_or_some zero = inl refl
zero_or_some (suc n) = inr (λ e. let k : ⊥ = omega arith in k)

-- 1 where a fact holds, and 0 where it doesn't
abbrev count : {A : Type 0} → Decided A → ℕ
count (inl h) = 1
count (inr h) = 0

holds : {A : Type 0} (d : Decided A) → count d ≢ 0 → A
holds (inl h) some = h
holds (inr h) some = absurd (some refl)

fails : {A : Type 0} (d : Decided A) → count d ≡ 0 → ¬ A
fails (inl h) none = absurd (omega arith)
fails (inr h) none = h

module _ (Q : Wires → Type 0) (decide : (x : Wires) → Decided (Q x)) where
  pub search : (ws : List Wire) → ((x : Wires) × Q x) ⊎ ((x : Wires) → IsOf ws x → ¬ Q x)
  search ws =
      let f : Wires → ℕ = λ x. count (decide x) in
      elim (zero_or_some (total ws f no_wires)) [
        | inl none ↦ inr (λ x of.
            let below = term_below_total ws f no_wires x (λ w l. of w l ∙ sym (has-no_wires w)) in
            fails (decide x) (let e : count (decide x) ≡ 0 = omega arith in e))
        | inr some ↦ inl (let r = term_of_total ws f no_wires some in (r.0, holds (decide r.0) r.1))
      ]

-- a set at which the amplitude is not zero has wires of the circuit's letters alone
pub nonzero_of : (c : Circuit) (x : Wires) → amp c x ≢ zero_number → IsOf (names c) x
nonzero_of c x some w l = by_bool (has x w) refl
  where
    by_bool : (b : Bool) → has x w ≡ b → has x w ≡ false
    by_bool true h = absurd (some (IsBlank-unnamed c w l x h))
    by_bool false h = h

module _ (c : Circuit) (P : Wires → Type 0) (decide : (x : Wires) → Decided (P x)) where
  nonzero_too : (x : Wires) → Decided (P x × (amp c x ≢ zero_number))
  nonzero_too x = elim (decide x) [
    | inr not ↦ inr (λ h. not h.0)
    | inl is ↦ elim (zero_or_not (amp c x)) [ inl none ↦ inr (λ h. h.1 none) | inr some ↦ inl (is, some) ]
  ]

  -- somewhere where P holds the amplitude is not zero, or it is zero everywhere there
  pub some_amplitude : ((x : Wires) × P x × (amp c x ≢ zero_number)) ⊎ ((x : Wires) → P x → amp c x ≡ zero_number)
  some_amplitude = elim (search (λ x. P x × (amp c x ≢ zero_number)) nonzero_too (names c)) [
    | inl (x, h) ↦ inl (x, h.0, h.1)
    | inr none ↦ inr (λ x is. elim (zero_or_not (amp c x)) [ inl e ↦ e | inr some ↦ absurd (none x (nonzero_of c x some) (is, some)) ])
  ]
