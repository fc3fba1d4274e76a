use Rattle.std.proofs.Common.{◌≡◌, ℕ, false}
use borrow.Author.Count.{below_more}
use Rattle.qm_proto.specs.Model.Ideal.{ideal_enabled}
use Rattle.qm_ideal.specs.Views.{tables_of}
use Rattle.qm_ideal.proofs.run.lowest_enabled.Goals as goal

pub loop-rank-preserved : goal.loop-rank-preserved
loop-rank-preserved c =
    let P : ℕ → Type 0 = λ k. ideal_enabled c.args.input.now (tables_of c.args.tables.now) k ≡ false in
    below_more P c.loop-rank.rank c.loop-rank.invariant (cc)
