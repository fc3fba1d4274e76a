use Rattle.std.proofs.Common.{◌≡◌, ◌≤◌, ◌+◌, ◌*◌, ◌^◌, suc, length, ap, arith}
use Rattle.qm_denot.specs.Places.{bit_of}
use Rattle.qm_kernels.proofs.SizeLaws.{gather_fits, gathered_none, gathered_more}
use Rattle.qm_kernels.proofs.sizes.gather.Goals as goal
use Rattle.qm_kernels.proofs.sizes.gather.Goals.{then-m, else-m}

pub overflow_add-from : goal.overflow_add-from
overflow_add-from g c =
    let half = c.half_block-half.result in
    let whole = c.half_block-half.ensures.whole in
    let few : c.if-m.kept ≤ half = elim c.if-m.branch [ then-m w ↦ omega arith | else-m w ↦ omega arith ] in
    let fits : 2 * c.loop-start.start + c.if-m.kept + half ≤ length c.args.list.now =
    gather_fits c.loop-start.start (length c.args.list.now) half c.loop-start.invariant.turns.0 whole.0 c.if-m.kept c.loop-start.invariant.turns.1 whole.1 (omega arith) few in
    omega (arith, fits)

pub overflow_add-from-in-loop-start : goal.overflow_add-from-in-loop-start
overflow_add-from-in-loop-start g c =
    let half = c.half_block-half.result in
    let whole = c.half_block-half.ensures.whole in
    let few : c.if-m.kept ≤ half = elim c.if-m.branch [ then-m w ↦ omega arith | else-m w ↦ omega arith ] in
    let fits : 2 * c.loop-start.start + c.if-m.kept + half ≤ length c.args.list.now =
    gather_fits c.loop-start.start (length c.args.list.now) half c.loop-start.invariant.turns.0 whole.0 c.if-m.kept c.loop-start.invariant.turns.1 whole.1 (omega arith) few in
    omega (arith, fits)

pub copy_within-requires-clause-in_bounds : goal.copy_within-requires-clause-in_bounds
copy_within-requires-clause-in_bounds g c =
    let half = c.half_block-half.result in
    let whole = c.half_block-half.ensures.whole in
    let few : c.if-m.kept ≤ half = elim c.if-m.branch [ then-m w ↦ omega arith | else-m w ↦ omega arith ] in
    let fits : 2 * c.loop-start.start + c.if-m.kept + half ≤ length c.args.list.now =
    gather_fits c.loop-start.start (length c.args.list.now) half c.loop-start.invariant.turns.0 whole.0 c.if-m.kept c.loop-start.invariant.turns.1 whole.1 (omega arith) few in
    omega (arith, fits)

pub loop-start-init : goal.loop-start-init
loop-start-init g c = record { gathered = λ past. gathered_none past _ _ _; turns = (0, omega arith) }

pub loop-start-preserved : goal.loop-start-preserved
loop-start-preserved g c =
    let half = c.half_block-half.result in
    let value : half ≡ 2 ^ c.args.place = c.half_block-half.ensures.value in
    let turns = c.loop-start.invariant.turns in
    let kept : c.if-m.kept ≡ bit_of c.args.m * half = elim c.if-m.branch [ then-m w ↦ rw w.if-m.true (omega arith) | else-m w ↦ rw w.if-m.false (omega arith) ] in
    let copied = c.copy_within.ensures.by_index in
    record {
      gathered = λ past.
          rw value
          (gathered_more past c.args.place c.args.m c.args.list.now c.loop-start.list c.copy_within.new.self c.loop-start.start turns.0 _ _ (c.loop-start.invariant.gathered past)
          (rw value at turns.1) (ap (λ n. 2 * c.loop-start.start + n) (rw value at kept)) (omega arith) copied.0 copied.1 copied.2);
      turns = (suc turns.0, omega (arith, turns.1));
    }

pub returns-clause-gathered : goal.returns-clause-gathered
returns-clause-gathered g c = λ past i h. (c.loop-start.invariant.gathered past).before i (omega (arith, h))
