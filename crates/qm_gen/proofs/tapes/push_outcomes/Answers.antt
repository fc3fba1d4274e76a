use Rattle.std.proofs.Common.{◌+◌, ◌-◌, arith}
use Rattle.qm_gen.proofs.DrawnLemmas.{draws-next}
use Rattle.qm_gen.proofs.tapes.push_outcomes.Goals as goal

pub loop-preserved : goal.loop-preserved
loop-preserved c =
    draws-next _ _ _ _ _ (c.args.len - (c.loop.counter + 1)) (c.args.len - c.loop.counter) _ _ c.loop.invariant (omega arith) c.draw.ensures.word c.draw.ensures.left (rw (← c.digit_of.ensures) c.in_ok-push.ensures.items)
