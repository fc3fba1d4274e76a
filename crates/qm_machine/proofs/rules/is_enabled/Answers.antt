use Rattle.std.proofs.Common.{sym}
use Rattle.qm_machine.specs.Views.{tables}
use Rattle.qm_machine.proofs.RowsRead.{rule_known}
use Rattle.qm_machine.proofs.rules.is_enabled.Goals as goal

pub lacks-requires : goal.lacks-requires
lacks-requires c = record {
  known = rule_known c.args.input.now (tables c.args.books.now) c.args.rank c.in-Some.row (sym c.in-Some.ensures) c.requires.ready;
  same = c.requires.same;
  sizes = c.requires.sizes;
}
