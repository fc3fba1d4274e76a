use Rattle.std.proofs.Common.{◌≡◌, ℕ, ◌+◌, ◌^◌, Bool, true, false, refl, sym, ◌∙◌, arith}
use mathlib.Core.Bool.{beq}
use Rattle.qm_denot.specs.Places.{has_place, set_place}
use Rattle.qm_denot.proofs.PlaceLaws.{place_kept, place_added, place_cleared}
use Rattle.qm_denot.proofs.plain.places.with_bit.Goals as goal

beq_same : (a b : Bool) → beq a b ≡ true → a ≡ b
beq_same true true e = refl
beq_same false false e = refl
beq_same true false e = cc
beq_same false true e = cc

beq_true : (a : Bool) → beq a true ≡ false → a ≡ false
beq_true true e = e
beq_true false e = refl

beq_false : (a : Bool) → beq a false ≡ false → a ≡ true
beq_false true e = refl
beq_false false e = sym e

pub returns-then-old-bit : goal.returns-then-old-bit
returns-then-old-bit c = sym (place_kept c.args.place c.args.k c.args.bit (sym c.bit_at-old.ensures ∙ beq_same _ _ c.if-old-bit.true))

cleared : (p k r : ℕ) (old bit : Bool) → beq old bit ≡ false → bit ≡ false → old ≡ has_place p k → r ≡ 2 ^ p → set_place p bit k + r ≡ k
cleared p k r old bit a b h e =
    let was : has_place p k ≡ true = sym h ∙ beq_false old (rw b at a) in
    rw (b, e) (place_cleared p k was)

pub overflow_sub-result : goal.overflow_sub-result
overflow_sub-result c = omega (arith, cleared _ c.args.k c.power-else-bit.result _ c.args.bit c.if-old-bit.false c.if-bit.false c.bit_at-old.ensures c.power-else-bit.ensures.value)

pub returns-else-bit : goal.returns-else-bit
returns-else-bit c = omega (arith, cleared _ c.args.k c.power-else-bit.result _ c.args.bit c.if-old-bit.false c.if-bit.false c.bit_at-old.ensures c.power-else-bit.ensures.value)

added : (p k r : ℕ) (old bit : Bool) → beq old bit ≡ false → bit ≡ true → old ≡ has_place p k → r ≡ 2 ^ p → k + r ≡ set_place p bit k
added p k r old bit a b h e =
    let was : has_place p k ≡ false = sym h ∙ beq_true old (rw b at a) in
    rw (b, e) (sym (place_added p k was))

pub returns-then-bit : goal.returns-then-bit
returns-then-bit c = added _ c.args.k _ _ c.args.bit c.if-old-bit.false c.if-bit.true c.bit_at-old.ensures c.power.ensures.value
