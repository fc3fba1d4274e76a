use Rattle.std.proofs.Common.{◌≡◌, ◌++◌}
use Rattle.qm_print.specs.Slots.{rank_slots}
use Rattle.qm_tool.proofs.ends.push_slots.Given as goal

abbrev pub invariant-loop-slot : goal.invariant-loop-slot
invariant-loop-slot g l = l.live.items ≡ l.fn.live.items ++ rank_slots l.rank l.slot (g.E.RankEnds.slots l.ends l.rank)
