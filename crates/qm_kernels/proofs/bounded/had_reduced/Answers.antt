use Rattle.std.proofs.Common.{◌+◌, sym, ◌∙◌}
use Rattle.std.proofs.lemmas.Bool.{false≢true}
use Rattle.qm_kernels.proofs.BelowLaws.{made_below, below-had}
use Rattle.qm_kernels.proofs.HadLaws.{halved_reduces, plain_reduces, halved_below}
use Rattle.qm_kernels.proofs.bounded.had_reduced.Goals as goal

pub had_halved-requires-clause-divisible : goal.had_halved-requires-clause-divisible
had_halved-requires-clause-divisible g c = c.had_divides.ensures.0 c.if-had_divides.true

pub returns-then-had_divides-clause-done : goal.returns-then-had_divides-clause-done
returns-then-had_divides-clause-done g c =
    halved_reduces g.Z.Numerator.meaning c.args.place _ c.args.exponent.now _ _ _ (c.had_divides.ensures.0 c.if-had_divides.true) c.had_halved.ensures c.reduce.ensures.done

pub returns-then-had_divides-clause-below : goal.returns-then-had_divides-clause-below
returns-then-had_divides-clause-below g c = λ n all.
    c.reduce.ensures.below (n + 1)
    (halved_below g.Z.Numerator.meaning c.args.place _ c.args.exponent.now n _ (c.had_divides.ensures.0 c.if-had_divides.true) c.had_halved.ensures all)

pub returns-else-had_divides-clause-done : goal.returns-else-had_divides-clause-done
returns-else-had_divides-clause-done g c =
    plain_reduces g.Z.Numerator.meaning c.args.place _ c.args.exponent.now _ (λ all. false≢true (sym c.if-had_divides.false ∙ c.had_divides.ensures.1 all)) c.had.ensures

pub returns-else-had_divides-clause-below : goal.returns-else-had_divides-clause-below
returns-else-had_divides-clause-below g c = λ n all. made_below g.Z.Numerator.meaning _ _ _ _ c.had.ensures (below-had n _ all c.args.place)
