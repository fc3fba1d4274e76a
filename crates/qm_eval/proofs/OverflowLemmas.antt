-- A store tells whether a letter leaves the range after the circuit for which it stands
use Rattle.std.proofs.Common.{◌≡◌, ℕ, ◌<◌, ◌≤◌, ◌⊎◌, inl, inr, length, take, Some, slice_get, sym, subst, ◌∙◌, arith}
use Rattle.std.proofs.Math.Path.{fun_ext}
use Rattle.std.proofs.lemmas.Option.{same_Some}
use Rattle.qm_denot.specs.declared.Letter.{Letter}
use Rattle.qm_denot.specs.declared.Letter.TheVariants.{Phase, Flip, Had, Cx, Cz, Pair, Keep, Take, Rename}
use Rattle.qm_denot.specs.Circuits.{Circuit}
use Rattle.qm_denot.specs.Stores.{Store, StandsFor, MayGrow, LeavesRange, Overflows}
use Rattle.qm_denot.proofs.Unique.{one_form, exponent_at_most}
use Rattle.qm_eval.specs.Overflows.{OverflowsAt}
use Rattle.qm_eval.specs.Laws.{FirstOverflowLaw}
use Rattle.qm_proto.proofs.Counting.{halvings-le}
use Rattle.qm_ideal.specs.OneCircuits.{most_letters}

-- ---- the exponent of a short circuit can grow
pub may_grow : (s : Store) (c : Circuit) → StandsFor s c → length c ≤ most_letters → MayGrow s
may_grow s c stands few =
    let least = exponent_at_most s.value s.exponent c stands.form in
    let most = halvings-le c in
    omega (arith, least, most, few)

-- ---- the letter leaves the range
module _ (c : Circuit) (at : ℕ) (l : Letter) (read : slice_get c at ≡ Some l) (s : Store) (stands : StandsFor s (take at c)) where
  pub overflows_here : Overflows l s → OverflowsAt c at
  overflows_here = by_letter l read
    where
      by_letter : (l : Letter) → slice_get c at ≡ Some l → Overflows l s → OverflowsAt c at
      by_letter (Had w) read h = record { wire = w; letter = read; leaves = (s.value, s.exponent, stands.form, h) }
      by_letter (Phase k w) read h = absurd h
      by_letter (Flip w) read h = absurd h
      by_letter (Cx a b) read h = absurd h
      by_letter (Cz a b) read h = absurd h
      by_letter (Pair a b) read h = absurd h
      by_letter (Keep w m) read h = absurd h
      by_letter (Take w m) read h = absurd h
      by_letter (Rename a b) read h = absurd h

  pub fits_here : ¬ Overflows l s → ¬ OverflowsAt c at
  fits_here fits o =
      let u = o.leaves.0 in
      let k = o.leaves.1 in
      let same = one_form u s.value k s.exponent (take at c) o.leaves.2 stands.form in
      let leaves : LeavesRange s.value o.wire = subst (λ f. LeavesRange f o.wire) (fun_ext same.1) o.leaves.3 in
      fits (subst (λ k. Overflows k s) (same_Some (Had o.wire) l (sym o.letter ∙ read)) leaves)

-- ---- the first letter that does so is one
order : (i j : ℕ) → (i ≡ j) ⊎ ((i < j) ⊎ (j < i))
order i j = grind arith

pub first_overflow_law : FirstOverflowLaw
first_overflow_law c = record {
  one = λ i j a b. elim (order i j) [
    | inl same ↦ same
    | inr other ↦ elim other [ inl less ↦ absurd (b.first i less a.overflows) | inr more ↦ absurd (a.first j more b.overflows) ]
  ];
  none = λ never i a. never i a.overflows;
}
