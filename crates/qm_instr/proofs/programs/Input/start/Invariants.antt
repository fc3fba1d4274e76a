use Rattle.std.proofs.Common.{◌≡◌, replicate}
use Rattle.qm_instr.specs.Programs.{idle_rank}
use Rattle.qm_instr.proofs.programs.Input.start.Given as goal

abbrev pub invariant-loop : goal.invariant-loop
invariant-loop l = l.all.items ≡ replicate l.counter idle_rank
