use Rattle.std.proofs.Common.{sym}
use Rattle.qm_machine.specs.Views.{tables}
use Rattle.qm_machine.proofs.RowsRead.{partner_below}
use Rattle.qm_machine.proofs.rows.row_next.Goals as goal

pub row_at-requires-clause-partner : goal.row_at-requires-clause-partner
row_at-requires-clause-partner c d names =
    let t = tables c.args.books.now in
    record {
      known = partner_below c.args.input.now c.args.rank (t.parts c.args.rank).at c.in-Some.instr c.requires.ready (sym c.in-Some.ensures) d names;
      same = c.requires.same;
    }
