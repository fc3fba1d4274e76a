use Rattle.std.proofs.Common.{◌≡◌, length, take, sum_by}
use Rattle.qm_tests_base.proofs.check.total.Given as goal

-- those of the ranks so far
abbrev pub invariant-loop-rank : goal.invariant-loop-rank
invariant-loop-rank l = l.total ≡ sum_by (λ r. length r.instructions) (take l.rank l.input.ranks)
