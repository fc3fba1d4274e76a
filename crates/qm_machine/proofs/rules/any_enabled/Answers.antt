use Rattle.std.proofs.Common.{◌≡◌, ℕ, false}
use borrow.Author.Count.{below_more}
use Rattle.qm_proto.specs.Model.Runs.{enabled}
use Rattle.qm_machine.specs.Views.{tables}
use Rattle.qm_machine.proofs.rules.any_enabled.Goals as goal

pub loop-rank-preserved : goal.loop-rank-preserved
loop-rank-preserved c =
    let P : ℕ → Type 0 = λ k. enabled c.args.input.now (tables c.args.books.now) k ≡ false in
    below_more P c.loop-rank.rank c.loop-rank.invariant (cc)
