use Rattle.std.proofs.Common.{◌≡◌, ◌≤◌, ◌+◌, ◌*◌, ◌^◌, ◌++◌, suc, length, ap, arith, ◌∙◌}
use Rattle.qm_kernels.proofs.BlockLaws.{turns_left}
use Rattle.qm_kernels.proofs.ExchangeLaws.{exchanged_none, exchanged_more}
use Rattle.qm_kernels.proofs.moves.exchange.Goals as goal

pub overflow_add-start : goal.overflow_add-start
overflow_add-start g c =
    let half = c.half_block-half.result in
    let blocks = c.half_block-half.ensures.whole in
    let turns = c.loop-start.invariant.turns in
    let start : c.loop-start.start ≡ turns.0 * (2 * half) = rw c.half_block-half.ensures.value turns.1 in
    let more : turns.0 * (2 * half) + 2 * half ≤ blocks.0 * (2 * half) = turns_left turns.0 blocks.0 (2 * half) (omega (arith, start, blocks.1)) in
    omega (arith, start, more, blocks.1)

pub split_at_mut-rest-requires : goal.split_at_mut-rest-requires
split_at_mut-rest-requires g c =
    let half = c.half_block-half.result in
    let blocks = c.half_block-half.ensures.whole in
    let turns = c.loop-start.invariant.turns in
    let start : c.loop-start.start ≡ turns.0 * (2 * half) = rw c.half_block-half.ensures.value turns.1 in
    let more : turns.0 * (2 * half) + 2 * half ≤ blocks.0 * (2 * half) = turns_left turns.0 blocks.0 (2 * half) (omega (arith, start, blocks.1)) in
    omega (arith, start, more, blocks.1)

pub split_at_mut-part-requires : goal.split_at_mut-part-requires
split_at_mut-part-requires g c =
    let half = c.half_block-half.result in
    let blocks = c.half_block-half.ensures.whole in
    let turns = c.loop-start.invariant.turns in
    let start : c.loop-start.start ≡ turns.0 * (2 * half) = rw c.half_block-half.ensures.value turns.1 in
    let more : turns.0 * (2 * half) + 2 * half ≤ blocks.0 * (2 * half) = turns_left turns.0 blocks.0 (2 * half) (omega (arith, start, blocks.1)) in
    omega (arith, start, more, blocks.1, c.split_at_mut-rest.ensures.back_len)

pub loop-start-init : goal.loop-start-init
loop-start-init g c = record { one = λ past. exchanged_none past _ _ _; other = λ past. exchanged_none past _ _ _; turns = (0, omega arith) }

pub loop-start-preserved : goal.loop-start-preserved
loop-start-preserved g c =
    let value = c.half_block-half.ensures.value in
    let turns = c.loop-start.invariant.turns in
    let a = c.split_at_mut-rest.result.0.now in
    let b = c.split_at_mut-part.result.0.now in
    let d = c.split_at_mut-part.result.1.now in
    let a2 = c.split_at_mut-other_rest.result.0.now in
    let b2 = c.split_at_mut-other_part.result.0.now in
    let d2 = c.split_at_mut-other_part.result.1.now in
    let parts : c.loop-start.one ≡ a ++ (b ++ d) = c.split_at_mut-rest.ensures.value ∙ ap (λ ys. a ++ ys) c.split_at_mut-part.ensures.value in
    let parts2 : c.loop-start.other ≡ a2 ++ (b2 ++ d2) = c.split_at_mut-other_rest.ensures.value ∙ ap (λ ys. a2 ++ ys) c.split_at_mut-other_part.ensures.value in
    let front : length a ≡ c.loop-start.start + 2 ^ c.args.place = c.split_at_mut-rest.ensures.front_len ∙ ap (λ n. c.loop-start.start + n) value in
    let front2 : length a2 ≡ c.loop-start.start + 2 ^ c.args.place = c.split_at_mut-other_rest.ensures.front_len ∙ ap (λ n. c.loop-start.start + n) value in
    let size : length b ≡ 2 ^ c.args.place = c.split_at_mut-part.ensures.front_len ∙ value in
    let size2 : length b2 ≡ 2 ^ c.args.place = c.split_at_mut-other_part.ensures.front_len ∙ value in
    record {
      one = λ past.
          rw (c.swap_with_slice.ensures.after, value)
          (exchanged_more past c.args.place c.args.one.now c.args.other.now c.loop-start.one c.loop-start.other a b d a2 b2 d2 c.loop-start.start turns.0
          (c.loop-start.invariant.one past) (c.loop-start.invariant.other past) parts parts2 front front2 size size2 turns.1);
      other = λ past.
          rw (c.swap_with_slice.ensures.other_after, value)
          (exchanged_more past c.args.place c.args.other.now c.args.one.now c.loop-start.other c.loop-start.one a2 b2 d2 a b d c.loop-start.start turns.0
          (c.loop-start.invariant.other past) (c.loop-start.invariant.one past) parts2 parts front2 front size2 size turns.1);
      turns = (suc turns.0, rw value (omega (arith, turns.1)));
    }

pub returns-clause-one : goal.returns-clause-one
returns-clause-one g c = record { size = omega arith; entries = λ past i h. (c.loop-start.invariant.one past).before i (omega (arith, h)) }

pub returns-clause-other : goal.returns-clause-other
returns-clause-other g c = record { size = omega arith; entries = λ past i h. (c.loop-start.invariant.other past).before i (omega (arith, h, c.requires.same)) }
