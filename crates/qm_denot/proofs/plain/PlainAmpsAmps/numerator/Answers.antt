use Rattle.std.proofs.Common.{◌<◌, length, refl, arith, sym, ◌∙◌}
use Rattle.qm_denot.proofs.Numerators.{number_read}
use Rattle.qm_denot.proofs.BranchLaws.{listed_value-set_at}
use Rattle.qm_denot.proofs.plain.PlainAmpsAmps.numerator.Goals as goal

pub returns : goal.returns
returns c =
    let s = c.args.self.now in
    let k = c.args.index in
    let below : k < length s.numerators.items = omega (arith, s.size, c.requires) in
    number_read s.numerators.items k k c.index.result.now refl below c.index.ensures ∙ sym (listed_value-set_at s.live.items s.numerators.items k s.kept.distinct c.requires)
