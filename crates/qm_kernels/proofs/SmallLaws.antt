-- The sums and differences of small numbers fit
use Rattle.std.proofs.Common.{ℕ, ◌<◌, ℤ, pos, ◌+ℤ◌, ◌-ℤ◌, Bool, true, false, if◌then◌else◌, List, length, inl, inr, sym, subst, arith}
use Rattle.std.proofs.lemmas.Bool.{cases_lt}
use Rattle.std.proofs.lemmas.Int.{ints}
use Rattle.qm_zomega.specs.declared.Zw.{Zw}
use Rattle.qm_zomega.specs.Numbers.{Number, zero_number, ◌⊕◌, ◌⊖◌, plus, minus}
use Rattle.qm_zomega.specs.NumberLists.{number_at}
use Rattle.qm_zomega.specs.Range.{IsInRange, FitsZw}
use Rattle.qm_denot.specs.Places.{has_place, set_place}
use Rattle.qm_denot.specs.LettersByPlace.{had_at}
use Rattle.qm_denot.proofs.Numerators.{number_past}
use Rattle.qm_kernels.specs.Small.{IsSmall, IsSmallPart}

part_sum : (x y : ℤ) → IsSmallPart x → IsSmallPart y → IsInRange (x +ℤ y)
part_sum x y s t = omega (arith, ints, s.low, s.high, t.low, t.high)

part_difference : (x y : ℤ) → IsSmallPart x → IsSmallPart y → IsInRange (x -ℤ y)
part_difference x y s t = omega (arith, ints, s.low, s.high, t.low, t.high)

sum_fits : (z w : Number) → IsSmall z → IsSmall w → FitsZw (z ⊕ w)
unfolding plus
sum_fits z w s t = record {
  a_fits = part_sum _ _ s.a_small t.a_small;
  b_fits = part_sum _ _ s.b_small t.b_small;
  c_fits = part_sum _ _ s.c_small t.c_small;
  d_fits = part_sum _ _ s.d_small t.d_small;
}

difference_fits : (z w : Number) → IsSmall z → IsSmall w → FitsZw (z ⊖ w)
unfolding minus
difference_fits z w s t = record {
  a_fits = part_difference _ _ s.a_small t.a_small;
  b_fits = part_difference _ _ s.b_small t.b_small;
  c_fits = part_difference _ _ s.c_small t.c_small;
  d_fits = part_difference _ _ s.d_small t.d_small;
}

zero_part : IsSmallPart (pos 0)
zero_part = record { low = omega (arith, ints); high = omega (arith, ints) }

zero_small : IsSmall zero_number
zero_small = record { a_small = zero_part; b_small = zero_part; c_small = zero_part; d_small = zero_part }

-- past the end of a list stand zeros, which are small
everywhere : (zs : List Zw) → ((i : ℕ) → i < length zs → IsSmall (number_at zs i)) → (i : ℕ) → IsSmall (number_at zs i)
everywhere zs small i = elim (cases_lt i (length zs)) [
  | inl lt ↦ small i lt
  | inr le ↦ subst IsSmall (sym (number_past zs i le)) zero_small
]

fits_either : (b : Bool) (z w : Number) → FitsZw z → FitsZw w → FitsZw (if b then z else w)
fits_either true z w f g = f
fits_either false z w f g = g

-- `Had` on a list of small numbers fits
pub had_fits_small : (p : ℕ) (zs : List Zw) → ((i : ℕ) → i < length zs → IsSmall (number_at zs i)) → (i : ℕ) → FitsZw (had_at p (number_at zs) i)
had_fits_small p zs small i =
    let all = everywhere zs small in
    fits_either (has_place p i) _ _ (difference_fits _ _ (all (set_place p false i)) (all i)) (sum_fits _ _ (all i) (all (set_place p true i)))
