use Rattle.std.proofs.Common.{◌≡◌, ◌<◌, ℕ, false}
use Rattle.qm_proto.specs.Model.Runs.{has_event}
use Rattle.qm_machine.specs.Views.{tables}
use Rattle.qm_machine.proofs.machine.Machine.has_more.Given as goal

abbrev pub invariant-loop-rank : goal.invariant-loop-rank
invariant-loop-rank g l = (k : ℕ) → k < l.rank → has_event l.input (tables l.self-inside.body.books) k ≡ false
