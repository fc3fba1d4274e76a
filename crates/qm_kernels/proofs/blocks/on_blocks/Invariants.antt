use Rattle.std.proofs.Common.{length, ◌-◌, ◌*◌}
use Rattle.qm_kernels.specs.Blocks.{SoFar}
use Rattle.qm_kernels.proofs.blocks.on_blocks.Given as goal

abbrev pub invariant-loop-start : goal.invariant-loop-start
invariant-loop-start g l = SoFar (g.S.Step.done l.step) (2 * l.half) l.fn.list l.list l.start

abbrev pub decreases-loop-start : goal.decreases-loop-start
decreases-loop-start g l = length l.initial.list - l.start
