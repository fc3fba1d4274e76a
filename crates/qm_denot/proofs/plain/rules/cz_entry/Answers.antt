use Rattle.std.proofs.Common.{◌≡◌, true, false, ◌&&◌, refl, sym, ap, ◌∙◌, arith}
use Rattle.qm_zomega.specs.Numbers.{negative}
use Rattle.qm_denot.specs.Places.{has_place}
use Rattle.qm_denot.proofs.Bits.{both-false_left, both-false_right}
use Rattle.qm_denot.proofs.PlaceBounds.{place_fits}
use Rattle.qm_denot.proofs.Numerators.{number_read}
use Rattle.qm_denot.proofs.plain.rules.cz_entry.Goals as goal
use Rattle.qm_denot.proofs.plain.rules.cz_entry.Goals.{else-bit_at-via-then-bit_at+else-bit_at-2, else-bit_at-via-else-bit_at}

pub bit_at-requires : goal.bit_at-requires
bit_at-requires c = omega (arith, place_fits _ _ c.requires.one c.requires.small)

pub bit_at-requires-then-bit_at : goal.bit_at-requires-then-bit_at
bit_at-requires-then-bit_at c = omega (arith, place_fits _ _ c.requires.other c.requires.small)

pub returns-then-bit_at-2 : goal.returns-then-bit_at-2
returns-then-bit_at-2 c =
    let one : has_place c.args.one c.args.k ≡ true = sym c.bit_at.ensures ∙ c.if-bit_at.true in
    let other : has_place c.args.other c.args.k ≡ true = sym c.bit_at-then-bit_at.ensures ∙ c.if-bit_at-2.true in
    rw (one, other) (c.neg.ensures ∙ ap negative (number_read c.args.from.now c.args.k c.args.k c.index-from-k.result refl c.requires.within c.index-from-k.is))

pub returns-else-bit_at : goal.returns-else-bit_at
returns-else-bit_at c =
    let not_both : (has_place c.args.one c.args.k && has_place c.args.other c.args.k) ≡ false =
    elim c.else-bit_at.branch [
      | else-bit_at-via-then-bit_at+else-bit_at-2 w ↦ both-false_right _ _ (sym w.bit_at-then-bit_at.ensures ∙ w.if-bit_at-2.false)
      | else-bit_at-via-else-bit_at w ↦ both-false_left _ _ (sym c.bit_at.ensures ∙ w.if-bit_at.false)
    ] in
    rw not_both (number_read c.args.from.now c.args.k c.args.k _ refl c.requires.within c.index-from-k-else-bit_at.is)
