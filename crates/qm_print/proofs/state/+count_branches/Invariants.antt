use Rattle.std.proofs.Common.{length}
use Rattle.qm_print.proofs.state.+count_branches.Given as goal

abbrev pub decreases-count_branches : goal.decreases-count_branches
decreases-count_branches g l = length l.slots.now
