use Rattle.std.proofs.Common.{refl, arith}
use Rattle.qm_store.proofs.WidenLaws.{one_widened}
use Rattle.qm_store.proofs.numerators.Numerators.one.Goals as goal

pub returns-clause-numbers : goal.returns-clause-numbers
returns-clause-numbers c =
    one_widened _ c.in_ok-narrow.narrow.items c.push.new.self.items _ c.push.ensures.items
    (c.push.ensures.succeeds (omega (arith, c.requires, c.in_ok-narrow.ensures.len, c.in_ok-narrow.ensures.exact))) c.in_ok-narrow.ensures.items refl
