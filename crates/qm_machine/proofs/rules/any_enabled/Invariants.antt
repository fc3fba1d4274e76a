use Rattle.std.proofs.Common.{◌≡◌, ◌<◌, ℕ, false}
use Rattle.qm_proto.specs.Model.Runs.{enabled}
use Rattle.qm_machine.specs.Views.{tables}
use Rattle.qm_machine.proofs.rules.any_enabled.Given as goal

abbrev pub invariant-loop-rank : goal.invariant-loop-rank
invariant-loop-rank l = (k : ℕ) → k < l.rank → enabled l.input (tables l.books) k ≡ false
