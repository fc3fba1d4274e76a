use Rattle.std.proofs.Common.{arith}
use Rattle.qm_store.proofs.ListLaws.{meant-resized}
use Rattle.qm_store.proofs.lists.double.Goals as goal

pub returns-clause-numbers : goal.returns-clause-numbers
returns-clause-numbers g c =
    let v = c.args.numerators.now in
    meant-resized g.Z.Numerator.meaning _ v.items c.resize.new.self.items _ _ _ c.resize.ensures.items (c.resize.ensures.succeeds (omega (arith, v.ok.0))) (omega (arith, v.ok.0, c.len-size.ensures)) c.zero.ensures
