use Rattle.std.proofs.Common.{◌≡◌, ◌+◌, ◌*◌, ◌≤◌, sum_by, take}
use Rattle.qm_instr.specs.Programs.{RankProgram}
use Rattle.qm_check.proofs.checking.total_capacity.Given as goal

abbrev pub invariant-loop-rank : goal.invariant-loop-rank
invariant-loop-rank l =
    (l.capacity ≡ sum_by (λ (r : RankProgram). r.qubits + r.buffer) (take l.rank l.input.ranks)) × (l.capacity ≤ 510 * l.rank)
