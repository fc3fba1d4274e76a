use Rattle.std.proofs.Common.{◌≡◌, true, false, refl, sym, ap, ◌∙◌, arith}
use Rattle.qm_zomega.specs.Numbers.{omega_times}
use Rattle.qm_denot.specs.Places.{has_place}
use Rattle.qm_denot.proofs.PlaceBounds.{place_fits}
use Rattle.qm_denot.proofs.Numerators.{number_read}
use Rattle.qm_denot.proofs.plain.rules.phase_entry.Goals as goal

pub bit_at-requires : goal.bit_at-requires
bit_at-requires c = omega (arith, place_fits _ _ c.requires.place c.requires.small)

pub returns-then-bit_at : goal.returns-then-bit_at
returns-then-bit_at c =
    let one : has_place c.args.place c.args.k ≡ true = sym c.bit_at.ensures ∙ c.if-bit_at.true in
    rw one (c.times_omega.ensures ∙ ap (omega_times c.args.turns) (number_read c.args.from.now c.args.k c.args.k c.index-from-k.result refl c.requires.within c.index-from-k.is))

pub returns-else-bit_at : goal.returns-else-bit_at
returns-else-bit_at c =
    let none : has_place c.args.place c.args.k ≡ false = sym c.bit_at.ensures ∙ c.if-bit_at.false in
    rw none (number_read c.args.from.now c.args.k c.args.k _ refl c.requires.within c.index-from-k-else-bit_at.is)
