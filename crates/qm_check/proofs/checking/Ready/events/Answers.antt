use Rattle.std.proofs.Common.{rules}
use Rattle.qm_check.proofs.checking.Ready.events.Goals as goal

pub returns : goal.returns
returns c = search rules
