use Rattle.std.proofs.Common.{◌≡◌, true, refl, sym, ap, ◌∙◌, arith}
use Rattle.qm_denot.specs.Circuits.{same_bit}
use Rattle.qm_denot.specs.Places.{has_place}
use Rattle.qm_denot.proofs.Bits.{same_bit-equal}
use Rattle.qm_denot.proofs.PlaceBounds.{place_fits}
use Rattle.qm_denot.proofs.Numerators.{number_read}
use Rattle.qm_denot.proofs.plain.rules.keep_entry.Goals as goal

pub bit_at-requires : goal.bit_at-requires
bit_at-requires c = omega (arith, place_fits _ _ c.requires.place c.requires.small)

pub returns : goal.returns
returns c =
    let same : same_bit (has_place c.args.place c.args.k) c.args.m ≡ true = ap (λ b. same_bit b c.args.m) (sym c.bit_at.ensures) ∙ same_bit-equal _ _ c.if-bit_at-m.false in
    rw same (number_read c.args.from.now c.args.k c.args.k c.index-from-k.result refl c.requires.within c.index-from-k.is)
