use Rattle.qm_kernels.specs.Done.{WrittenTo}
use Rattle.qm_kernels.proofs.moves.clear.Given as goal

abbrev pub invariant-loop-i : goal.invariant-loop-i
invariant-loop-i g l = (past : g.row.Z.Denot) → WrittenTo (λ x. x) past (λ i. l.value) l.fn.list l.list l.i
