use Rattle.std.proofs.Common.{sym, ◌∙◌}
use Rattle.qm_denot.proofs.BranchLaws.{listed_value-set_at}
use Rattle.qm_store.specs.Numerators.{items_of}
use Rattle.qm_store.proofs.ScaledAmpsAmps.numerator.Goals as goal

pub returns : goal.returns
returns c =
    let s = c.args.self.now in
    c.number.ensures ∙ sym (listed_value-set_at s.live.items (items_of s.numerators) c.args.index s.kept.distinct c.requires)
