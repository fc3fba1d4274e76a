use Rattle.std.proofs.Common.{◌≤◌, ◌+◌, ◌*◌, ◌++◌, length, refl, ap, arith, ◌∙◌}
use Rattle.qm_kernels.proofs.BlockLaws.{at_first, same_size, one_more_fits, all_done, may_here, more}
use Rattle.qm_kernels.proofs.blocks.on_blocks.Goals as goal

pub loop-start-init : goal.loop-start-init
loop-start-init g c = at_first _ _ _ (g.met.S.Step.none c.args.step.now)

pub split_at_mut-low-requires : goal.split_at_mut-low-requires
split_at_mut-low-requires g c =
    let fits : c.loop-start.start + 2 * c.args.half ≤ length c.loop-start.list = one_more_fits _ _ _ _ _ c.requires.blocks.0 c.loop-start.invariant c.requires.blocks.1 c.loop-start-test.true in
    omega (arith, c.split_at_mut-rest.ensures.back_len)

pub split_at_mut-high-requires : goal.split_at_mut-high-requires
split_at_mut-high-requires g c =
    let fits : c.loop-start.start + 2 * c.args.half ≤ length c.loop-start.list = one_more_fits _ _ _ _ _ c.requires.blocks.0 c.loop-start.invariant c.requires.blocks.1 c.loop-start-test.true in
    omega (arith, c.split_at_mut-rest.ensures.back_len, c.split_at_mut-low.ensures.back_len)

pub step-requires-clause-may : goal.step-requires-clause-may
step-requires-clause-may g c =
    let front = c.split_at_mut-rest.result.0.now in
    let low = c.split_at_mut-low.result.0.now in
    let high = c.split_at_mut-high.result.0.now in
    let tail = c.split_at_mut-high.result.1.now in
    may_here _ _ _ _ _ c.requires.blocks.0 c.loop-start.invariant front low high tail
    (c.split_at_mut-rest.ensures.value ∙ ap (λ ys. front ++ ys) (c.split_at_mut-low.ensures.value ∙ ap (λ ys. low ++ ys) c.split_at_mut-high.ensures.value))
    c.split_at_mut-rest.ensures.front_len c.args.half c.split_at_mut-low.ensures.front_len c.split_at_mut-high.ensures.front_len refl
    (g.S.Step.may c.args.step.now)
    (λ n xs ys size. g.met.S.Step.parts c.args.step.now n xs ys (rw (← c.requires.half) size))
    c.requires.may

pub loop-start-preserved : goal.loop-start-preserved
loop-start-preserved g c =
    let front = c.split_at_mut-rest.result.0.now in
    let low = c.split_at_mut-low.result.0.now in
    let high = c.split_at_mut-high.result.0.now in
    let tail = c.split_at_mut-high.result.1.now in
    more _ _ _ _ _ c.requires.blocks.0 c.loop-start.invariant front low high tail
    (c.split_at_mut-rest.ensures.value ∙ ap (λ ys. front ++ ys) (c.split_at_mut-low.ensures.value ∙ ap (λ ys. low ++ ys) c.split_at_mut-high.ensures.value))
    c.split_at_mut-rest.ensures.front_len c.args.half c.split_at_mut-low.ensures.front_len c.split_at_mut-high.ensures.front_len refl
    c.step.new.low c.step.new.high c.step.ensures.low_half c.step.ensures.high_half
    (λ n xs ys us vs size same. g.met.S.Step.joined c.args.step.now n xs ys us vs (rw (← c.requires.half) size) same)
    c.step.ensures.done

pub returns-clause-size : goal.returns-clause-size
returns-clause-size g c = same_size _ _ _ _ _ 0 c.loop-start.invariant

pub returns-clause-done : goal.returns-clause-done
returns-clause-done g c = all_done _ _ _ _ _ 0 c.loop-start.invariant (omega arith)
