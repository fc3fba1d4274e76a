use Rattle.std.proofs.Common.{◌≡◌, ◌≤◌, ◌+◌, ◌*◌, ◌++◌, length, refl, sym, ap, subst, arith, ◌∙◌}
use Rattle.std.proofs.lemmas.Bool.{false≢true}
use Rattle.qm_zomega.specs.Numbers.{IsDivisible}
use Rattle.qm_denot.specs.LettersByPlace.{had_at}
use Rattle.qm_kernels.specs.Blocks.{SoFar}
use Rattle.qm_kernels.specs.Done.{AllHeld}
use Rattle.qm_kernels.specs.JoinLaws.{held_joined, blocks_held}
use Rattle.qm_kernels.proofs.BlockLaws.{all_done, at_first, one_more_fits, may_here, more, two_parts}
use Rattle.qm_kernels.proofs.StepLaws.{mix_held, held_mix}
use Rattle.qm_kernels.proofs.halving.had_divides.Goals as goal

pub loop-start-init : goal.loop-start-init
loop-start-init g c = at_first _ _ _ (λ i h. absurd (omega arith))

pub split_at-requires-in-loop-start : goal.split_at-requires-in-loop-start
split_at-requires-in-loop-start g c =
    let blocks = c.half_block-half.ensures.whole in
    let fits : c.loop-start.start + 2 * c.half_block-half.result ≤ length c.args.list.now = one_more_fits _ _ _ _ _ blocks.0 c.loop-start.invariant blocks.1 c.loop-start-test.true in
    omega (arith, c.split_at.ensures.back_len)

pub split_at-requires-in-loop-start-2 : goal.split_at-requires-in-loop-start-2
split_at-requires-in-loop-start-2 g c =
    let blocks = c.half_block-half.ensures.whole in
    let fits : c.loop-start.start + 2 * c.half_block-half.result ≤ length c.args.list.now = one_more_fits _ _ _ _ _ blocks.0 c.loop-start.invariant blocks.1 c.loop-start-test.true in
    omega (arith, c.split_at.ensures.back_len, c.split_at-in-loop-start.ensures.back_len)

pub returns-then-not-all_sums_halvable : goal.returns-then-not-all_sums_halvable
returns-then-not-all_sums_halvable g c =
    let meaning = g.Z.Numerator.meaning in
    let holds = IsDivisible in
    let p = c.args.place in
    let value = c.half_block-half.ensures.value in
    let front = c.split_at.result.0.now in
    let low = c.split_at-in-loop-start.result.0.now in
    let high = c.split_at-in-loop-start-2.result.0.now in
    let tail = c.split_at-in-loop-start-2.result.1.now in
    let split : c.args.list.now ≡ front ++ (low ++ (high ++ tail)) =
    two_parts _ _ _ _ c.split_at.ensures.front c.split_at.ensures.back
    ∙ ap (λ ys. front ++ ys) (two_parts _ _ _ _ c.split_at-in-loop-start.ensures.front c.split_at-in-loop-start.ensures.back
    ∙ ap (λ ys. low ++ ys) (two_parts _ _ _ _ c.split_at-in-loop-start-2.ensures.front c.split_at-in-loop-start-2.ensures.back)) in (
      (λ never. absurd (false≢true never)),
      (λ all.
          let here : AllHeld meaning holds (had_at p) (low ++ high) =
          may_here _ _ _ _ _ c.half_block-half.ensures.whole.0 c.loop-start.invariant front low high tail split c.split_at.ensures.front_len c.half_block-half.result
          c.split_at-in-loop-start.ensures.front_len c.split_at-in-loop-start-2.ensures.front_len refl (AllHeld meaning holds (had_at p))
          (λ n xs ys size. blocks_held meaning holds p n xs ys (rw value at size)) all in
          sym c.if-not-all_sums_halvable.true
          ∙ c.all_sums_halvable.ensures.1 (mix_held meaning p low high low high (c.split_at-in-loop-start.ensures.front_len ∙ value) (c.split_at-in-loop-start-2.ensures.front_len ∙ value) holds here)),
    )

pub loop-start-preserved : goal.loop-start-preserved
loop-start-preserved g c =
    let meaning = g.Z.Numerator.meaning in
    let holds = IsDivisible in
    let p = c.args.place in
    let value = c.half_block-half.ensures.value in
    let front = c.split_at.result.0.now in
    let low = c.split_at-in-loop-start.result.0.now in
    let high = c.split_at-in-loop-start-2.result.0.now in
    let tail = c.split_at-in-loop-start-2.result.1.now in
    let split : c.args.list.now ≡ front ++ (low ++ (high ++ tail)) =
    two_parts _ _ _ _ c.split_at.ensures.front c.split_at.ensures.back
    ∙ ap (λ ys. front ++ ys) (two_parts _ _ _ _ c.split_at-in-loop-start.ensures.front c.split_at-in-loop-start.ensures.back
    ∙ ap (λ ys. low ++ ys) (two_parts _ _ _ _ c.split_at-in-loop-start-2.ensures.front c.split_at-in-loop-start-2.ensures.back)) in
    subst (λ now. SoFar (λ xs us. AllHeld meaning holds (had_at p) xs) (2 * c.half_block-half.result) c.args.list.now now (c.loop-start.start + 2 * c.half_block-half.result)) (sym split)
    (more _ _ _ _ _ c.half_block-half.ensures.whole.0 c.loop-start.invariant front low high tail split c.split_at.ensures.front_len c.half_block-half.result
    c.split_at-in-loop-start.ensures.front_len c.split_at-in-loop-start-2.ensures.front_len refl low high refl refl
    (λ n xs ys us vs size same. held_joined meaning holds p n xs ys (rw value at size))
    (held_mix meaning p low high low high (c.split_at-in-loop-start.ensures.front_len ∙ value) (c.split_at-in-loop-start-2.ensures.front_len ∙ value) holds
    (c.all_sums_halvable.ensures.0 c.if-not-all_sums_halvable.false)))

pub all_sums_halvable-requires-clause-fits : goal.all_sums_halvable-requires-clause-fits
all_sums_halvable-requires-clause-fits g c =
    let meaning = g.Z.Numerator.meaning in
    let fit = g.Z.Numerator.holds in
    let p = c.args.place in
    let value = c.half_block-half.ensures.value in
    let front = c.split_at.result.0.now in
    let low = c.split_at-in-loop-start.result.0.now in
    let high = c.split_at-in-loop-start-2.result.0.now in
    let tail = c.split_at-in-loop-start-2.result.1.now in
    let split : c.args.list.now ≡ front ++ (low ++ (high ++ tail)) =
    two_parts _ _ _ _ c.split_at.ensures.front c.split_at.ensures.back
    ∙ ap (λ ys. front ++ ys) (two_parts _ _ _ _ c.split_at-in-loop-start.ensures.front c.split_at-in-loop-start.ensures.back
    ∙ ap (λ ys. low ++ ys) (two_parts _ _ _ _ c.split_at-in-loop-start-2.ensures.front c.split_at-in-loop-start-2.ensures.back)) in
    let here : AllHeld meaning fit (had_at p) (low ++ high) =
    may_here _ _ _ _ _ c.half_block-half.ensures.whole.0 c.loop-start.invariant front low high tail split c.split_at.ensures.front_len c.half_block-half.result
    c.split_at-in-loop-start.ensures.front_len c.split_at-in-loop-start-2.ensures.front_len refl (AllHeld meaning fit (had_at p))
    (λ n xs ys size. blocks_held meaning fit p n xs ys (rw value at size)) c.requires.fits in
    mix_held meaning p low high low high (c.split_at-in-loop-start.ensures.front_len ∙ value) (c.split_at-in-loop-start-2.ensures.front_len ∙ value) fit here

pub returns : goal.returns
returns g c = ((λ _. all_done _ _ _ _ _ c.half_block-half.ensures.whole.0 c.loop-start.invariant (omega arith)), (λ _. refl))
