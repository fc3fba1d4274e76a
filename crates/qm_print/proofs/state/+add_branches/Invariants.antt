use Rattle.std.proofs.Common.{length}
use Rattle.qm_print.proofs.state.+add_branches.Given as goal

abbrev pub decreases-add_branches : goal.decreases-add_branches
decreases-add_branches g l = length l.slots.now
