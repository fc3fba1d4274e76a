use Rattle.std.proofs.Common.{◌≡◌, ◌<◌, length, true, false, ◌↔◌, IsSome, IfSome, refl, sym, subst, ◌∙◌, arith}
use Rattle.qm_zomega.specs.Numbers.{◌⊕◌, ◌⊖◌}
use Rattle.qm_zomega.specs.Range.{FitsZw}
use Rattle.qm_zomega.specs.Zw.{value_of}
use Rattle.qm_denot.specs.Places.{has_place}
use Rattle.qm_denot.specs.LettersByPlace.{had_at}
use Rattle.qm_zomega.specs.NumberLists.{number_at}
use Rattle.qm_denot.proofs.PlaceBounds.{place_fits, set_place_within}
use Rattle.qm_denot.proofs.Numerators.{number_read}
use Rattle.qm_denot.proofs.plain.vectors.had_entry.Goals as goal
use Rattle.qm_denot.proofs.plain.vectors.had_entry.Goals.{After-with_bit, After-with_bit-else-bit_at, After-sub, After-add}

pub bit_at-requires : goal.bit_at-requires
bit_at-requires c = omega (arith, place_fits _ _ c.requires.place c.requires.small)

pub with_bit-requires-clause-place : goal.with_bit-requires-clause-place
with_bit-requires-clause-place c = omega (arith, place_fits _ _ c.requires.place c.requires.small)

pub with_bit-requires-else-bit_at-clause-place : goal.with_bit-requires-else-bit_at-clause-place
with_bit-requires-else-bit_at-clause-place c = omega (arith, place_fits _ _ c.requires.place c.requires.small)

low : (c : After-with_bit) → c.with_bit.result < length c.args.from.now
low c = set_place_within _ c.args.place c.args.k _ false c.requires.place c.requires.within c.with_bit.ensures

high : (c : After-with_bit-else-bit_at) → c.with_bit-else-bit_at.result < length c.args.from.now
high c = set_place_within _ c.args.place c.args.k _ true c.requires.place c.requires.within c.with_bit-else-bit_at.ensures

pub offset_bounds-from-with_bit : goal.offset_bounds-from-with_bit
offset_bounds-from-with_bit c = omega (arith, low c)

pub bounds-from-with_bit : goal.bounds-from-with_bit
bounds-from-with_bit c = low c

pub offset_bounds-from-with_bit-else-bit_at : goal.offset_bounds-from-with_bit-else-bit_at
offset_bounds-from-with_bit-else-bit_at c = omega (arith, high c)

pub bounds-from-with_bit-else-bit_at : goal.bounds-from-with_bit-else-bit_at
bounds-from-with_bit-else-bit_at c = high c

difference : (c : After-sub) → value_of c.index-from-with_bit.result ⊖ value_of c.index-from-k.result ≡ had_at c.args.place (number_at c.args.from.now) c.args.k
difference c =
    let one : has_place c.args.place c.args.k ≡ true = sym c.bit_at.ensures ∙ c.if-bit_at.true in
    let below = number_read c.args.from.now c.with_bit.result _ c.index-from-with_bit.result c.with_bit.ensures (set_place_within _ c.args.place c.args.k _ false c.requires.place c.requires.within c.with_bit.ensures) c.index-from-with_bit.is in
    let here = number_read c.args.from.now c.args.k c.args.k c.index-from-k.result refl c.requires.within c.index-from-k.is in
    rw (one, below, here) refl

sum : (c : After-add) → value_of c.index-from-k-else-bit_at.result ⊕ value_of c.index-from-with_bit-else-bit_at.result ≡ had_at c.args.place (number_at c.args.from.now) c.args.k
sum c =
    let none : has_place c.args.place c.args.k ≡ false = sym c.bit_at.ensures ∙ c.if-bit_at.false in
    let above = number_read c.args.from.now c.with_bit-else-bit_at.result _ c.index-from-with_bit-else-bit_at.result c.with_bit-else-bit_at.ensures (set_place_within _ c.args.place c.args.k _ true c.requires.place c.requires.within c.with_bit-else-bit_at.ensures) c.index-from-with_bit-else-bit_at.is in
    let here = number_read c.args.from.now c.args.k c.args.k c.index-from-k-else-bit_at.result refl c.requires.within c.index-from-k-else-bit_at.is in
    rw (none, above, here) refl

pub returns-then-bit_at-clause-fits : goal.returns-then-bit_at-clause-fits
returns-then-bit_at-clause-fits c = subst (λ z. IsSome c.sub.result ↔ FitsZw z) (difference c) c.sub.ensures.fits

pub returns-then-bit_at-clause-value : goal.returns-then-bit_at-clause-value
returns-then-bit_at-clause-value c = subst (λ n. IfSome c.sub.result (λ z. value_of z ≡ n)) (difference c) c.sub.ensures.value

pub returns-else-bit_at-clause-fits : goal.returns-else-bit_at-clause-fits
returns-else-bit_at-clause-fits c = subst (λ z. IsSome c.add.result ↔ FitsZw z) (sum c) c.add.ensures.fits

pub returns-else-bit_at-clause-value : goal.returns-else-bit_at-clause-value
returns-else-bit_at-clause-value c = subst (λ n. IfSome c.add.result (λ z. value_of z ≡ n)) (sum c) c.add.ensures.value
