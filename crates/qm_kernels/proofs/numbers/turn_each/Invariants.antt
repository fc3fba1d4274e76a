use Rattle.qm_zomega.specs.Numbers.{zero_number, omega_times}
use Rattle.qm_zomega.specs.NumberLists.{meant_at}
use Rattle.qm_kernels.specs.Done.{WrittenTo}
use Rattle.qm_kernels.proofs.numbers.turn_each.Given as goal

abbrev pub invariant-loop-i : goal.invariant-loop-i
invariant-loop-i g l = WrittenTo g.Z.Numerator.meaning zero_number (λ i. omega_times g.row.E (meant_at g.Z.Numerator.meaning l.fn.list i)) l.fn.list l.list l.i
