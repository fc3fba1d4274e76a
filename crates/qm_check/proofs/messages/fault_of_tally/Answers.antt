use Rattle.std.proofs.Common.{rules}
use Rattle.qm_check.proofs.messages.fault_of_tally.Goals as goal

pub returns : goal.returns
returns c = search rules
