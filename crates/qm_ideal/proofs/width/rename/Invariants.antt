use Rattle.std.proofs.Common.{◌≡◌, ◌++◌, take, drop}
use Rattle.qm_denot.specs.WireLists.{with_renamed}
use Rattle.qm_ideal.proofs.width.rename.Given as goal

abbrev pub invariant-loop-wire : goal.invariant-loop-wire
invariant-loop-wire l = l.live ≡ with_renamed (take l.wire-index l.initial.live) l.a l.b ++ drop l.wire-index l.initial.live
