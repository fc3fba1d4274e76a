use Rattle.std.proofs.Common.{◌≡◌, ◌<◌, ℕ, false}
use Rattle.qm_proto.specs.Model.Ideal.{ideal_enabled}
use Rattle.qm_ideal.specs.Views.{tables_of}
use Rattle.qm_ideal.proofs.run.lowest_enabled.Given as goal

abbrev pub invariant-loop-rank : goal.invariant-loop-rank
invariant-loop-rank l = (k : ℕ) → k < l.rank → ideal_enabled l.input (tables_of l.tables) k ≡ false
