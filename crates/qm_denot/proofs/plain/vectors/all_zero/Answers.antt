use Rattle.std.proofs.Common.{inl, inr, ◌∙◌, arith, below_more}
use Rattle.qm_denot.proofs.Numerators.{number_here, number_past, side}
use Rattle.qm_denot.proofs.plain.vectors.all_zero.Goals as goal

pub loop-k-preserved : goal.loop-k-preserved
loop-k-preserved c = below_more _ _ c.loop-k.invariant
    (number_here c.args.numerators.now c.loop-k.k c.index-numerators-k.result c.loop-k-test.true c.index-numerators-k.is ∙ c.is_zero.ensures.0 c.if-not-is_zero.false)

pub returns : goal.returns
returns c = λ _ k. elim (side c.args.numerators.now k) [
  | inl near ↦ c.loop-k.invariant k (omega arith)
  | inr past ↦ number_past c.args.numerators.now k past
]
