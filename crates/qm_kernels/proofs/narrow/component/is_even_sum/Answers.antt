use Rattle.std.proofs.Common.{◌≡◌, ℤ, arith, ◌+ℤ◌, pos, ◌≤ℤ◌, IsTrue, ◌↔◌, nat_eq, of_z}
use Rattle.std.proofs.lemmas.Int.{ints}
use mir.Syntax.{w32}
use mir.Val.{SFits}
use Rattle.std.proofs.lemmas.Bool.Decides.{nat_tests}
use Rattle.qm_zomega.specs.Component.{IsEven}
use Rattle.qm_kernels.proofs.narrow.component.is_even_sum.Goals as goal

-- two numbers with equal rests have an even sum
even_where_rests_agree : (x y p q i j : ℤ) → p +ℤ p +ℤ i ≡ x → q +ℤ q +ℤ j ≡ y → i ≡ j → IsEven (x +ℤ y)
even_where_rests_agree x y p q i j first second equal = (p +ℤ q +ℤ i, omega (arith, ints))

-- two numbers with an even sum have equal rests
rests_agree : (x y p q i j h : ℤ) → p +ℤ p +ℤ i ≡ x → q +ℤ q +ℤ j ≡ y → pos 0 ≤ℤ i → i ≤ℤ pos 1 → pos 0 ≤ℤ j → j ≤ℤ pos 1 → h +ℤ h ≡ x +ℤ y → i ≡ j
rests_agree x y p q i j h first second i_low i_high j_low j_high even = omega (arith, ints)

rest_fits : (i : ℤ) → pos 0 ≤ℤ i → i ≤ℤ pos 1 → SFits w32 i
rest_fits i low high = omega (arith, ints)

-- the code's `==` on two numbers
equal_rests : (i j : ℤ) → SFits w32 i → SFits w32 j → IsTrue (nat_eq (of_z w32 i) (of_z w32 j)) ↔ (i ≡ j)
equal_rests i j i_fits j_fits = grind (arith, ints, nat_tests)

pub returns : goal.returns
returns c =
    let s = c.halved in
    let t = c.halved-2 in
    let first : s.result.half +ℤ s.result.half +ℤ s.result.rest ≡ c.args.x = omega (arith, ints) in
    let second : t.result.half +ℤ t.result.half +ℤ t.result.rest ≡ c.args.y = omega (arith, ints) in
    let equal = equal_rests s.result.rest t.result.rest (rest_fits _ s.ensures.low s.ensures.high) (rest_fits _ t.ensures.low t.ensures.high) in (
      (λ h. even_where_rests_agree _ _ _ _ _ _ first second (equal.0 h)),
      (λ h. equal.1 (rests_agree c.args.x c.args.y _ _ _ _ h.0 first second s.ensures.low s.ensures.high t.ensures.low t.ensures.high h.1)),
    )
