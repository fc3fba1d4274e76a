use Rattle.std.proofs.Common.{◌≡◌, ◌∙◌, arith}
use Rattle.qm_walk.proofs.Standing.{standing_at_start}
use Rattle.qm_walk.proofs.walk.Walk.start.Goals as goal

pub returns : goal.returns
returns c =
    let ended : c.loop.counter ≡ c.ranks-end.result = omega arith in
    standing_at_start c.args.input.now c.loop.places.items c.loop.counter (ended ∙ c.ranks-end.ensures.value) c.loop.invariant
