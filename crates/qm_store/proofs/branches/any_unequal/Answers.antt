use Rattle.std.proofs.Common.{◌≡◌, Bool, true, false, not, refl, sym, ◌∙◌, arith, below_more}
use mathlib.Core.Bool.{beq}
use Rattle.std.proofs.lemmas.Bool.{false≢true}
use Rattle.qm_zomega.specs.Numbers.{zero_number}
use Rattle.qm_zomega.proofs.SeenLaws.{seen-here}
use Rattle.qm_denot.proofs.PlaceBounds.{place_fits}
use Rattle.qm_store.proofs.branches.any_unequal.Goals as goal
use Rattle.qm_store.proofs.branches.any_unequal.Goals.{else-bit_at-via-then-bit_at+else-not-is_nought, else-bit_at-via-else-bit_at}

equal : (a b : Bool) → not (beq a b) ≡ false → a ≡ b
equal true true e = refl
equal false false e = refl
equal true false e = cc
equal false true e = cc

unequal : (a b : Bool) → not (beq a b) ≡ true → a ≡ b → ⊥
unequal true true e f = cc
unequal false false e f = cc
unequal true false e f = cc
unequal false true e f = cc

pub bit_at-requires : goal.bit_at-requires
bit_at-requires g c = omega (arith, place_fits _ c.args.one c.requires.one c.requires.small)

pub bit_at-requires-in-loop-k : goal.bit_at-requires-in-loop-k
bit_at-requires-in-loop-k g c = omega (arith, place_fits _ c.args.other c.requires.other c.requires.small)

pub returns-then-not-is_nought-clause-yes : goal.returns-then-not-is_nought-clause-yes
returns-then-not-is_nought-clause-yes g c = λ _. (
  c.loop-k.k,
  c.loop-k-test.true,
  λ same. unequal _ _ c.if-bit_at.true (c.bit_at.ensures ∙ same ∙ sym c.bit_at-in-loop-k.ensures),
  λ zero. false≢true (sym c.if-not-is_nought.true ∙ c.is_nought.ensures.1 (sym (seen-here g.Z.Numerator.meaning zero_number c.args.numerators.now c.loop-k.k c.index-numerators-k.result c.loop-k-test.true c.index-numerators-k.is) ∙ zero)),
)

pub loop-k-preserved : goal.loop-k-preserved
loop-k-preserved g c = below_more _ _ c.loop-k.invariant (λ differ. elim c.else-bit_at.branch [
  | else-bit_at-via-then-bit_at+else-not-is_nought w ↦
      seen-here g.Z.Numerator.meaning zero_number c.args.numerators.now c.loop-k.k w.index-numerators-k.result c.loop-k-test.true w.index-numerators-k.is ∙ w.is_nought.ensures.0 w.if-not-is_nought.false
  | else-bit_at-via-else-bit_at w ↦ absurd (differ (sym c.bit_at.ensures ∙ equal _ _ w.if-bit_at.false ∙ c.bit_at-in-loop-k.ensures))
])
