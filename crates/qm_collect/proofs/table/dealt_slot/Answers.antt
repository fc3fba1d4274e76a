use Rattle.std.proofs.Common.{rules}
use Rattle.qm_collect.proofs.table.dealt_slot.Goals as goal

pub returns : goal.returns
returns c = search rules
