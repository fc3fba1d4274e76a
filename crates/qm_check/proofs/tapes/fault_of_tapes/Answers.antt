use Rattle.std.proofs.Common.{rules}
use Rattle.qm_check.proofs.tapes.fault_of_tapes.Goals as goal

pub returns : goal.returns
returns c = search rules
