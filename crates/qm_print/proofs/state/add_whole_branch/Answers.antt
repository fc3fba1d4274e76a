use Rattle.std.proofs.Common.{[]}
use Rattle.qm_print.proofs.BranchLemmas.{ones_are_live}
use Rattle.qm_print.proofs.state.add_whole_branch.Goals as goal

pub value-numerator-requires-clause-live : goal.value-numerator-requires-clause-live
value-numerator-requires-clause-live g c = rw c.ones.ensures (ones_are_live _ c.args.branch.now [] c.requires)
