use Rattle.std.proofs.Common.{◌≡◌, length}
use Rattle.qm_ideal.specs.OneRuns.{instructions_left}
use Rattle.qm_ideal.specs.UnderWay.{IsUnderWay}
use Rattle.qm_ideal.specs.Views.{tables_of, state_of}
use Rattle.qm_ideal.proofs.run.Run.of.Given as goal

abbrev pub invariant-loop-rank : goal.invariant-loop-rank
invariant-loop-rank g l = IsUnderWay l.input (g.F.Feed.feeds l.feed l.input) (state_of l.run) × (length l.run.tables.ranks.items ≡ length l.input.ranks)

abbrev pub decreases-loop-rank : goal.decreases-loop-rank
decreases-loop-rank g l = instructions_left l.input (tables_of l.run.tables)
