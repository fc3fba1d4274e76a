use Rattle.std.proofs.Common.{rules}
use Rattle.qm_collect.proofs.table.own_gate.Goals as goal

pub returns-in_default : goal.returns-in_default
returns-in_default c = search rules
