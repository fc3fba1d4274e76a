use Rattle.std.proofs.Common.{◌≡◌, inl, inr, sym, ap, subst, ◌∙◌, arith, below_more}
use Rattle.qm_zomega.specs.Numbers.{IsDivisible, root2_of}
use Rattle.qm_zomega.specs.Zw.{value_of}
use Rattle.qm_zomega.proofs.Laws.Powers.{root2-zero}
use Rattle.qm_zomega.specs.NumberLists.{number_at}
use Rattle.qm_denot.proofs.Numerators.{number_here, number_past, side, number_at-set_same, number_at-set_other}
use Rattle.qm_denot.proofs.plain.vectors.halve_all.Goals as goal
use Rattle.qm_denot.proofs.plain.vectors.halve_all.Goals.{After-index-numerators-k}

here : (c : After-index-numerators-k) → value_of c.index-numerators-k.result ≡ number_at c.args.numerators.now c.loop-k.k
here c = sym (number_here c.loop-k.numerators c.loop-k.k c.index-numerators-k.result (omega arith) c.index-numerators-k.is) ∙ c.loop-k.invariant.rest c.loop-k.k (omega arith)

pub root_half-requires : goal.root_half-requires
root_half-requires c = subst IsDivisible (sym (here c)) (c.requires c.loop-k.k)

pub loop-k-preserved : goal.loop-k-preserved
loop-k-preserved c = record {
  done = below_more _ _
      (λ j h. ap root2_of (number_at-set_other c.loop-k.numerators c.loop-k.k j c.root_half.result (omega arith)) ∙ c.loop-k.invariant.done j h)
      (ap root2_of (number_at-set_same c.loop-k.numerators c.loop-k.k c.root_half.result (omega arith)) ∙ c.root_half.ensures ∙ here (goal.at.loop-k-preserved c).After-index-numerators-k);
  rest = λ j h. number_at-set_other c.loop-k.numerators c.loop-k.k j c.root_half.result (omega arith) ∙ c.loop-k.invariant.rest j (omega arith);
}

pub returns-clause-halved : goal.returns-clause-halved
returns-clause-halved c = λ k. elim (side c.args.numerators.now k) [
  | inl near ↦ c.loop-k.invariant.done k (omega arith)
  | inr past ↦ ap root2_of (number_past c.loop-k.numerators k (omega arith)) ∙ root2-zero ∙ sym (number_past c.args.numerators.now k past)
]
