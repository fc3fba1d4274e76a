use Rattle.std.proofs.Common.{◌%◌, length}
use Rattle.qm_ranks.proofs.Turning.{Waits}
use Rattle.qm_ranks.proofs.turn.Given as goal

abbrev pub invariant-loop-steps : goal.invariant-loop-steps
invariant-loop-steps g l = Waits g.A.Amps.store l.fn.machine (l.word % length l.fn.machine.programs.ranks) l.steps l.machine
