use Rattle.std.proofs.Common.{◌≡◌, ◌*◌, ℕ, ◌+◌, ◌<◌, ◌≤◌, ◌^◌, true, false, length, sym, ap, ◌∙◌, arith}
use Rattle.std.proofs.Math.Pow.{pow_mono}
use Rattle.qm_denot.specs.Circuits.{same_bit}
use Rattle.qm_denot.specs.Places.{has_place, set_place}
use Rattle.qm_zomega.specs.NumberLists.{number_at}
use Rattle.qm_denot.proofs.Bits.{same_bit-equal}
use Rattle.qm_denot.proofs.Numerators.{number_here}
use Rattle.qm_denot.proofs.PlaceBounds.{places_few}
use Rattle.qm_denot.proofs.PlaceLaws.{set_place_below}
use Rattle.qm_denot.proofs.PairLaws.{cleared_below}
use Rattle.qm_denot.proofs.plain.rules.pair_entry.Goals as goal
use Rattle.qm_denot.proofs.plain.rules.pair_entry.Goals.{After-with_bit-2}

few : (size n : ℕ) → size ≡ 2 ^ n → size ≤ 2 ^ 22 → n ≤ 22
few size n e small = places_few n 22 (omega arith)

-- clearing the place keeps an index small
cleared_small : (n k : ℕ) → n ≤ 22 → k < 4 * 2 ^ n → set_place n false k < 4294967296
cleared_small n k h l =
    let top : 2 ^ n ≤ 2 ^ 22 = pow_mono h in
    let r = set_place_below n false k 30 (omega arith) (omega arith) in omega arith

below : (c : After-with_bit-2) → c.with_bit-2.result < length c.args.from.now
below c =
    let e = c.with_bit-2.ensures ∙ ap (set_place (c.args.count + 1) false) c.with_bit.ensures in
    let r = cleared_below c.args.count c.args.k (let s = c.requires.size in let w = c.requires.within in rw (← s) w) in
    rw (e, c.requires.size) r

pub overflow_add-count : goal.overflow_add-count
overflow_add-count c = omega (arith, few _ c.args.count c.requires.size c.requires.small)

pub bit_at-requires : goal.bit_at-requires
bit_at-requires c = omega (arith, few _ c.args.count c.requires.size c.requires.small)

pub bit_at-requires-2 : goal.bit_at-requires-2
bit_at-requires-2 c = omega (arith, few _ c.args.count c.requires.size c.requires.small)

pub overflow_add-count-2 : goal.overflow_add-count-2
overflow_add-count-2 c = omega (arith, few _ c.args.count c.requires.size c.requires.small)

pub with_bit-requires-clause-place : goal.with_bit-requires-clause-place
with_bit-requires-clause-place c = omega (arith, few _ c.args.count c.requires.size c.requires.small)

pub with_bit-requires-2-clause-place : goal.with_bit-requires-2-clause-place
with_bit-requires-2-clause-place c = omega (arith, few _ c.args.count c.requires.size c.requires.small)

pub with_bit-requires-2-clause-small : goal.with_bit-requires-2-clause-small
with_bit-requires-2-clause-small c =
    rw c.with_bit.ensures (cleared_small c.args.count c.args.k (few _ c.args.count c.requires.size c.requires.small) (omega (arith, c.requires.size, c.requires.within)))

pub offset_bounds-from-with_bit : goal.offset_bounds-from-with_bit
offset_bounds-from-with_bit c = omega (arith, below (goal.at.offset_bounds-from-with_bit c).After-with_bit-2, c.requires.small)

pub bounds-from-with_bit : goal.bounds-from-with_bit
bounds-from-with_bit c = below c

pub returns : goal.returns
returns c =
    let same : same_bit (has_place c.args.count c.args.k) (has_place (c.args.count + 1) c.args.k) ≡ true =
    sym (ap (λ b. same_bit b c.bit_at-2.result) c.bit_at.ensures ∙ ap (same_bit (has_place c.args.count c.args.k)) c.bit_at-2.ensures) ∙ same_bit-equal _ _ c.if-bit_at.false in
    let number = number_here c.args.from.now c.with_bit-2.result c.index-from-with_bit.result (below (goal.at.returns c).After-with_bit-2) c.index-from-with_bit.is in
    rw same (sym number ∙ ap (number_at c.args.from.now) (c.with_bit-2.ensures ∙ ap (set_place (c.args.count + 1) false) c.with_bit.ensures))
