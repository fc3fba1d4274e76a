use Rattle.qm_kernels.proofs.SmallLaws.{had_fits_small}
use Rattle.qm_kernels.proofs.exact.had_fits.Goals as goal

pub returns-then-all_small : goal.returns-then-all_small
returns-then-all_small c =
    ((λ _ i h. had_fits_small c.args.place c.args.v.now (c.all_small.ensures.0 c.if-all_small.true) i), (λ _. c.if-all_small.true))
