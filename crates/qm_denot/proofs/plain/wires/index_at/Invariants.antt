use Rattle.std.proofs.Common.{take}
use Rattle.qm_denot.specs.WireLists.{wires_of}
use Rattle.qm_denot.proofs.LiveWires.{IndexSoFar}
use Rattle.qm_denot.proofs.plain.wires.index_at.Given as goal

abbrev pub invariant-loop-w : goal.invariant-loop-w
invariant-loop-w l = IndexSoFar l.live (wires_of (take l.w-index l.ones)) l.k
