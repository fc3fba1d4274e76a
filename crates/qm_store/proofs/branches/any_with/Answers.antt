use Rattle.std.proofs.Common.{sym, ◌∙◌, arith, below_more}
use Rattle.std.specs.Cmp.{booleans_Decides}
use Rattle.std.proofs.lemmas.Bool.{false≢true}
use Rattle.qm_zomega.specs.Numbers.{zero_number}
use Rattle.qm_zomega.proofs.SeenLaws.{seen-here}
use Rattle.qm_denot.proofs.PlaceBounds.{place_fits}
use Rattle.qm_store.proofs.branches.any_with.Goals as goal
use Rattle.qm_store.proofs.branches.any_with.Goals.{else-bit_at-bit-via-then-bit_at-bit+else-not-is_nought, else-bit_at-bit-via-else-bit_at-bit}

pub bit_at-requires : goal.bit_at-requires
bit_at-requires g c = omega (arith, place_fits _ c.args.place c.requires.place c.requires.small)

pub returns-then-not-is_nought-clause-yes : goal.returns-then-not-is_nought-clause-yes
returns-then-not-is_nought-clause-yes g c = λ _. (
  c.loop-k.k,
  c.loop-k-test.true,
  sym c.bit_at.ensures ∙ (booleans_Decides _ _).0 c.if-bit_at-bit.true,
  λ zero. false≢true (sym c.if-not-is_nought.true ∙ c.is_nought.ensures.1 (sym (seen-here g.Z.Numerator.meaning zero_number c.args.numerators.now c.loop-k.k c.index-numerators-k.result c.loop-k-test.true c.index-numerators-k.is) ∙ zero)),
)

pub loop-k-preserved : goal.loop-k-preserved
loop-k-preserved g c = below_more _ _ c.loop-k.invariant (λ bit. elim c.else-bit_at-bit.branch [
  | else-bit_at-bit-via-then-bit_at-bit+else-not-is_nought w ↦
      seen-here g.Z.Numerator.meaning zero_number c.args.numerators.now c.loop-k.k w.index-numerators-k.result c.loop-k-test.true w.index-numerators-k.is ∙ w.is_nought.ensures.0 w.if-not-is_nought.false
  | else-bit_at-bit-via-else-bit_at-bit w ↦ absurd (false≢true (sym w.if-bit_at-bit.false ∙ (booleans_Decides _ _).1 (c.bit_at.ensures ∙ bit)))
])
