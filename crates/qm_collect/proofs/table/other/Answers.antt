use Rattle.std.proofs.Common.{sym, arith}
use Rattle.qm_collect.proofs.Tables.{other_below, other_above, other_past}
use Rattle.qm_collect.proofs.table.other.Goals as goal

pub returns-then-j-from-clause-value : goal.returns-then-j-from-clause-value
returns-then-j-from-clause-value c = sym (other_below c.args.root c.args.ranks c.args.j c.requires.root (omega arith))

pub returns-then-j-from-2-clause-value : goal.returns-then-j-from-2-clause-value
returns-then-j-from-2-clause-value c = sym (other_above c.args.root c.args.ranks c.args.j c.requires.root (omega arith) (omega arith))

pub returns-else-j-from-2-clause-value : goal.returns-else-j-from-2-clause-value
returns-else-j-from-2-clause-value c = sym (other_past c.args.root c.args.ranks c.args.j c.requires.root (omega arith))
