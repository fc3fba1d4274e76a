use Rattle.std.proofs.Common.{rules}
use Rattle.qm_machine.proofs.messages.move_to.Goals as goal

pub returns-in-4 : goal.returns-in-4
returns-in-4 c = search rules
