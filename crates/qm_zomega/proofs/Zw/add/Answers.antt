use Rattle.std.proofs.Common.{arith, refl}
use Rattle.std.proofs.lemmas.Int.{ints}
use Rattle.qm_zomega.specs.Numbers.{plus}
use Rattle.qm_zomega.proofs.Laws.{same}
use Rattle.qm_zomega.proofs.Options.{none_where_not}
use Rattle.qm_zomega.proofs.Zw.add.Goals as goal

pub returns-in_err-ranged_sum-clause-fits : goal.returns-in_err-ranged_sum-clause-fits
unfolding plus
returns-in_err-ranged_sum-clause-fits c = none_where_not _ _ c.from_residual.ensures (λ f. c.in_err-ranged_sum.ensures (omega (arith, ints, f.a_fits)))

pub returns-in_err-ranged_sum-2-clause-fits : goal.returns-in_err-ranged_sum-2-clause-fits
unfolding plus
returns-in_err-ranged_sum-2-clause-fits c = none_where_not _ _ c.from_residual-in_err-ranged_sum-2.ensures (λ f. c.in_err-ranged_sum-2.ensures (omega (arith, ints, f.b_fits)))

pub returns-in_err-ranged_sum-3-clause-fits : goal.returns-in_err-ranged_sum-3-clause-fits
unfolding plus
returns-in_err-ranged_sum-3-clause-fits c = none_where_not _ _ c.from_residual-in_err-ranged_sum-3.ensures (λ f. c.in_err-ranged_sum-3.ensures (omega (arith, ints, f.c_fits)))

pub returns-in_err-ranged_sum-4-clause-fits : goal.returns-in_err-ranged_sum-4-clause-fits
unfolding plus
returns-in_err-ranged_sum-4-clause-fits c = none_where_not _ _ c.from_residual-in_err-ranged_sum-4.ensures (λ f. c.in_err-ranged_sum-4.ensures (omega (arith, ints, f.d_fits)))

pub returns-clause-fits : goal.returns-clause-fits
unfolding plus
returns-clause-fits c = (
  (λ _. record {
    a_fits = omega (arith, ints, c.in_ok-ranged_sum.ensures.0);
    b_fits = omega (arith, ints, c.in_ok-ranged_sum-2.ensures.0);
    c_fits = omega (arith, ints, c.in_ok-ranged_sum-3.ensures.0);
    d_fits = omega (arith, ints, c.in_ok-ranged_sum-4.ensures.0);
  }),
  (λ _. refl),
)

pub returns-clause-value : goal.returns-clause-value
unfolding plus
returns-clause-value c = same _ _ (omega (arith, ints, c.in_ok-ranged_sum.ensures)) (omega (arith, ints, c.in_ok-ranged_sum-2.ensures)) (omega (arith, ints, c.in_ok-ranged_sum-3.ensures)) (omega (arith, ints, c.in_ok-ranged_sum-4.ensures))
