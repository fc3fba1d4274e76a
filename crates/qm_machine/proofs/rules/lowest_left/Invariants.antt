use Rattle.std.proofs.Common.{◌≡◌, ◌<◌, ℕ, false}
use Rattle.qm_proto.specs.Model.Runs.{has_event}
use Rattle.qm_machine.specs.Views.{tables}
use Rattle.qm_machine.proofs.rules.lowest_left.Given as goal

abbrev pub invariant-loop-lower : goal.invariant-loop-lower
invariant-loop-lower l = (k : ℕ) → k < l.lower → has_event l.input (tables l.books) k ≡ false
