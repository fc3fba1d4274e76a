use Rattle.std.proofs.Common.{inl, inr, refl, sym, subst, arith, below_more}
use Rattle.qm_zomega.specs.Numbers.{IsDivisible}
use Rattle.qm_zomega.proofs.Laws.Divisible.{IsDivisible-zero}
use Rattle.qm_denot.proofs.Numerators.{number_here, number_past, side}
use Rattle.qm_denot.proofs.plain.vectors.all_halvable.Goals as goal

pub returns-then-not-halvable : goal.returns-then-not-halvable
returns-then-not-halvable c = (
  (λ t. cc),
  (λ all. let e = c.halvable.ensures.1 (subst IsDivisible (number_here c.args.numerators.now c.loop-k.k c.index-numerators-k.result c.loop-k-test.true c.index-numerators-k.is) (all c.loop-k.k)) in let f = c.if-not-halvable.true in cc),
)

pub loop-k-preserved : goal.loop-k-preserved
loop-k-preserved c = below_more _ _ c.loop-k.invariant
    (subst IsDivisible (sym (number_here c.args.numerators.now c.loop-k.k c.index-numerators-k.result c.loop-k-test.true c.index-numerators-k.is)) (c.halvable.ensures.0 c.if-not-halvable.false))

pub returns : goal.returns
returns c = (
  (λ t k. elim (side c.args.numerators.now k) [
    | inl near ↦ c.loop-k.invariant k (omega arith)
    | inr past ↦ subst IsDivisible (sym (number_past c.args.numerators.now k past)) IsDivisible-zero
  ]),
  (λ _. refl),
)
