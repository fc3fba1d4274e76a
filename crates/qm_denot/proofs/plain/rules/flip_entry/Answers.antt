use Rattle.std.proofs.Common.{◌<◌, length, not, arith}
use Rattle.qm_denot.specs.Places.{has_place}
use Rattle.qm_denot.proofs.PlaceBounds.{place_fits, set_place_within}
use Rattle.qm_denot.proofs.Numerators.{number_read}
use Rattle.qm_denot.proofs.plain.rules.flip_entry.Goals as goal
use Rattle.qm_denot.proofs.plain.rules.flip_entry.Goals.{After-with_other_bit}

pub with_other_bit-requires-clause-place : goal.with_other_bit-requires-clause-place
with_other_bit-requires-clause-place c = omega (arith, place_fits _ _ c.requires.place c.requires.small)

within : (c : After-with_other_bit) → c.with_other_bit.result < length c.args.from.now
within c = set_place_within _ c.args.place c.args.k _ (not (has_place c.args.place c.args.k)) c.requires.place c.requires.within c.with_other_bit.ensures

pub offset_bounds-from-with_other_bit : goal.offset_bounds-from-with_other_bit
offset_bounds-from-with_other_bit c = omega (arith, within c)

pub bounds-from-with_other_bit : goal.bounds-from-with_other_bit
bounds-from-with_other_bit c = within c

pub returns : goal.returns
returns c = number_read c.args.from.now c.with_other_bit.result _ c.index-from-with_other_bit.result c.with_other_bit.ensures (within (goal.at.returns c).After-with_other_bit) c.index-from-with_other_bit.is
