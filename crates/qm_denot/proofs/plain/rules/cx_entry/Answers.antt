use Rattle.std.proofs.Common.{◌≡◌, ◌<◌, length, true, false, not, refl, sym, ◌∙◌, arith}
use Rattle.qm_denot.specs.Places.{has_place}
use Rattle.qm_denot.proofs.PlaceBounds.{place_fits, set_place_within}
use Rattle.qm_denot.proofs.Numerators.{number_read}
use Rattle.qm_denot.proofs.plain.rules.cx_entry.Goals as goal
use Rattle.qm_denot.proofs.plain.rules.cx_entry.Goals.{After-with_other_bit}

pub bit_at-requires : goal.bit_at-requires
bit_at-requires c = omega (arith, place_fits _ _ c.requires.control c.requires.small)

pub with_other_bit-requires-clause-place : goal.with_other_bit-requires-clause-place
with_other_bit-requires-clause-place c = omega (arith, place_fits _ _ c.requires.target c.requires.small)

within : (c : After-with_other_bit) → c.with_other_bit.result < length c.args.from.now
within c = set_place_within _ c.args.target c.args.k _ (not (has_place c.args.target c.args.k)) c.requires.target c.requires.within c.with_other_bit.ensures

pub offset_bounds-from-with_other_bit : goal.offset_bounds-from-with_other_bit
offset_bounds-from-with_other_bit c = omega (arith, within c)

pub bounds-from-with_other_bit : goal.bounds-from-with_other_bit
bounds-from-with_other_bit c = within c

pub returns-then-bit_at : goal.returns-then-bit_at
returns-then-bit_at c =
    let one : has_place c.args.control c.args.k ≡ true = sym c.bit_at.ensures ∙ c.if-bit_at.true in
    rw one (number_read c.args.from.now c.with_other_bit.result _ c.index-from-with_other_bit.result c.with_other_bit.ensures (within (goal.at.returns-then-bit_at c).After-with_other_bit) c.index-from-with_other_bit.is)

pub returns-else-bit_at : goal.returns-else-bit_at
returns-else-bit_at c =
    let none : has_place c.args.control c.args.k ≡ false = sym c.bit_at.ensures ∙ c.if-bit_at.false in
    rw none (number_read c.args.from.now c.args.k c.args.k c.index-from-k.result refl c.requires.within c.index-from-k.is)
