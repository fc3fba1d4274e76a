use Rattle.std.proofs.Common.{rules}
use Rattle.qm_tree.proofs.table.instr_at.Goals as goal

pub returns-in-Cast : goal.returns-in-Cast
returns-in-Cast c = search rules

pub returns-in-Uncast : goal.returns-in-Uncast
returns-in-Uncast c = search rules
