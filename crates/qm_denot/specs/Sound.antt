-- What a store keeps of its list of live wires and its list of numerators, and why it is sound
use Rattle.std.specs.Prelude.{◌≢◌, ℕ, ◌≤◌, ◌⊎◌, true, false, List, [], ◌∷◌, length, Contains}
use Rattle.std.proofs.Common.{zero, suc, inl, inr, refl, arith}
use Rattle.std.proofs.Math.IntN.{ℤ_set}
use Rattle.qm_zomega.specs.declared.Zw.{Zw}
use Rattle.qm_zomega.specs.Numbers.{IsDivisible}
use Rattle.qm_zomega.proofs.Laws.Divisible.{divisible_or_not}
use Rattle.qm_denot.specs.declared.Wire.{Wire}
use Rattle.qm_denot.specs.Wires.{Wires, put, no_wires}
use Rattle.qm_denot.specs.WireLists.{Lacks, Distinct}
use Rattle.qm_denot.specs.Circuits.{Amplitudes, IsBlankIn}
use Rattle.qm_denot.specs.Stores.{IsReduced, IsSound}
use Rattle.qm_denot.specs.ListStores.{listed_value, listed_store}

-- root2 divides the number of each set of wires of the list
abbrev pub DivisibleOver : List Wire → Amplitudes → Type 0
DivisibleOver [] f = IsDivisible (f no_wires)
DivisibleOver (w ∷ ws) f = DivisibleOver ws (λ x. f (put x w false)) × DivisibleOver ws (λ x. f (put x w true))

-- each live wire stands there once, other wires are blank, and the exponent is 0 or root2 does not divide every number
pub record Keeps (live : List Wire) (zs : List Zw) (k : ℕ) : Type 0 where
  pub distinct : Distinct live
  pub blank : (w : Wire) → ¬ (Contains live w) → IsBlankIn (listed_value live zs) w
  pub reduced : k ≢ 0 → ¬ (DivisibleOver live (listed_value live zs))

-- each of these facts has at most one proof, as a fact that a struct keeps must
Lacks-prop : (ws : List Wire) (w : Wire) → IsProp (Lacks ws w)
Lacks-prop [] w = hlevel
Lacks-prop (v ∷ ws) w = hlevel (Lacks-prop ws w)

pub Distinct-prop : (ws : List Wire) → IsProp (Distinct ws)
Distinct-prop [] = hlevel
Distinct-prop (w ∷ ws) = hlevel (Lacks-prop ws w, Distinct-prop ws)

pub Keeps-prop : (live : List Wire) (zs : List Zw) (k : ℕ) → IsProp (Keeps live zs k)
Keeps-prop live zs k = hlevel (Distinct-prop live, ℤ_set)

-- root2 divides every number, or some number is not divisible: there are finitely many, and each can be tried
pub all_or_some : (ws : List Wire) (f : Amplitudes) → DivisibleOver ws f ⊎ ((x : Wires) × ¬ (IsDivisible (f x)))
all_or_some [] f = elim (divisible_or_not (f no_wires)) [ inl d ↦ inl d | inr odd ↦ inr (no_wires, odd) ]
all_or_some (w ∷ ws) f = elim (all_or_some ws (λ x. f (put x w false))) [
  | inr some ↦ inr (put some.0 w false, some.1)
  | inl low ↦ elim (all_or_some ws (λ x. f (put x w true))) [ inr some ↦ inr (put some.0 w true, some.1) | inl high ↦ inl (low, high) ]
]

-- so a store that keeps this is reduced
pub reduced_where_kept : (live : List Wire) (zs : List Zw) (k : ℕ) → Keeps live zs k → IsReduced (listed_value live zs) k
reduced_where_kept live zs zero kept = inl refl
reduced_where_kept live zs (suc k) kept = elim (all_or_some live (listed_value live zs)) [
  | inl all ↦ absurd (kept.reduced (omega arith) all)
  | inr some ↦ inr some
]

-- and sound
pub listed_sound : (n : ℕ) (live : List Wire) (k : ℕ) (zs : List Zw)
    → length live ≤ n → Keeps live zs k → IsSound (listed_store n live k zs)
listed_sound n live k zs few kept = record {
  distinct = kept.distinct;
  few = few;
  blank = kept.blank;
  reduced = reduced_where_kept live zs k kept;
}
