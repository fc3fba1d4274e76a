use Rattle.std.proofs.Common.{◌≡◌}
use Rattle.qm_print.specs.Slots.{slots_below}
use Rattle.qm_tool.proofs.ends.full_slots.Given as goal

abbrev pub invariant-loop-rank : goal.invariant-loop-rank
invariant-loop-rank g l = l.live.items ≡ slots_below l.input l.rank (g.E.RankEnds.slots l.ends)
