use Rattle.std.proofs.Common.{◌≡◌, ◌*◌, ◌≤◌, length, sum_by, take}
use Rattle.qm_instr.specs.Programs.{RankProgram}
use Rattle.qm_print.proofs.check.instruction_total.Given as goal

abbrev pub invariant-loop-rank : goal.invariant-loop-rank
invariant-loop-rank l =
    (l.total ≡ sum_by (λ (r : RankProgram). length r.instructions) (take l.rank l.input.ranks)) × (l.total ≤ 100000 * l.rank)
