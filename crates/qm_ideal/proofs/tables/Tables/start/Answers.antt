use Rattle.qm_ideal.proofs.TableLemmas.{start_tables}
use Rattle.qm_ideal.proofs.tables.Tables.start.Goals as goal

pub returns-clause-start : goal.returns-clause-start
returns-clause-start c =
    let x = c.loop.invariant.0 in
    start_tables c.args.input.now c.loop.ranks.items _ _ c.loop.invariant.0 c.start.ensures
