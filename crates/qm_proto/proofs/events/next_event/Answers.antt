use Rattle.std.proofs.Common.{rules}
use Rattle.qm_proto.proofs.events.next_event.Goals as goal

-- src/events.rt:37:1
pub returns-in-MoveFrom-clause-value : goal.returns-in-MoveFrom-clause-value
returns-in-MoveFrom-clause-value c = search rules
