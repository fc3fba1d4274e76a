use Rattle.std.proofs.Common.{take}
use Rattle.qm_denot.specs.WireLists.{Lacks}
use Rattle.qm_denot.proofs.plain.wires.place_of.Given as goal

abbrev pub invariant-loop-i : goal.invariant-loop-i
invariant-loop-i l = Lacks (take l.i l.live) l.w
