use Rattle.qm_print.proofs.BranchLemmas.{GoesOn-start}
use Rattle.qm_print.proofs.state.count_lines.Goals as goal

pub count_branches-requires : goal.count_branches-requires
count_branches-requires g c = rw c.start.ensures (GoesOn-start _ _ c.requires)
