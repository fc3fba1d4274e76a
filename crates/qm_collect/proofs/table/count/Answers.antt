use Rattle.std.proofs.Common.{◌∙◌, arith, Some, None}
use Rattle.qm_collect.proofs.Tables.{length-at_root}
use Rattle.qm_collect.proofs.table.count.Goals as goal

pub returns-in-None : goal.returns-in-None
returns-in-None c =
    let long = length-at_root c.args.which c.args.rank c.args.ranks (c.if-rank-root.false ∙ c.root.ensures) None c.in-None.ensures c.requires.root in
    omega arith

pub returns-in-Some : goal.returns-in-Some
returns-in-Some c =
    let long = length-at_root c.args.which c.args.rank c.args.ranks (c.if-rank-root.false ∙ c.root.ensures) (Some c.in-Some.field-0) c.in-Some.ensures c.requires.root in
    omega arith
