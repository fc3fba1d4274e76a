use Rattle.std.proofs.Common.{arith}
use Rattle.qm_kernels.proofs.moves.cross.Goals as goal

pub returns-then-target-control-clause-moved : goal.returns-then-target-control-clause-moved
returns-then-target-control-clause-moved g c = c.on_blocks.ensures.done c.if-target-control.true

pub returns-else-target-control-clause-moved : goal.returns-else-target-control-clause-moved
returns-else-target-control-clause-moved g c = c.on_blocks-else-target-control.ensures.done (omega (arith, c.requires.distinct))
