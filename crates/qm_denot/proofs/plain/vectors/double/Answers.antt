use Rattle.std.proofs.Common.{rules, refl, arith}
use Rattle.qm_denot.proofs.Numerators.{number_at-resized}
use Rattle.qm_denot.proofs.plain.vectors.double.Goals as goal

pub returns-clause-numbers : goal.returns-clause-numbers
returns-clause-numbers c =
    let v = c.args.numerators.now in
    number_at-resized _ v.items c.resize.new.self.items _ _ _ c.resize.ensures.items (c.resize.ensures.succeeds (omega (arith, v.ok.0))) (omega (arith, v.ok.0, c.len-size.ensures)) refl

pub returns-clause-size : goal.returns-clause-size
returns-clause-size c = search rules
