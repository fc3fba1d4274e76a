use Rattle.std.proofs.Common.{rules}
use Rattle.qm_check.proofs.messages.posted_lane.Goals as goal

pub returns-in-ReachFrom : goal.returns-in-ReachFrom
returns-in-ReachFrom c = search rules
