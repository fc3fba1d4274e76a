use Rattle.std.proofs.Common.{◌<◌, length, arith}
use Rattle.qm_denot.proofs.InsertLaws.{insert_place_within}
use Rattle.qm_denot.proofs.Numerators.{number_read}
use Rattle.qm_denot.proofs.PlaceBounds.{place_fits}
use Rattle.qm_denot.proofs.plain.rules.take_entry.Goals as goal
use Rattle.qm_denot.proofs.plain.rules.take_entry.Goals.{After-with_bit_put_in}

within : (c : After-with_bit_put_in) → c.with_bit_put_in.result < length c.args.from.now
within c = insert_place_within _ c.args.place c.args.k _ c.args.m c.requires.place c.requires.within c.with_bit_put_in.ensures

pub with_bit_put_in-requires-clause-place : goal.with_bit_put_in-requires-clause-place
with_bit_put_in-requires-clause-place c = omega (arith, place_fits _ c.args.place c.requires.place c.requires.small)

pub offset_bounds-from-with_bit_put_in : goal.offset_bounds-from-with_bit_put_in
offset_bounds-from-with_bit_put_in c = omega (arith, within c, c.requires.small)

pub bounds-from-with_bit_put_in : goal.bounds-from-with_bit_put_in
bounds-from-with_bit_put_in c = within c

pub returns : goal.returns
returns c =
    number_read c.args.from.now _ _ c.index-from-with_bit_put_in.result c.with_bit_put_in.ensures (within (goal.at.returns c).After-with_bit_put_in) c.index-from-with_bit_put_in.is
