use Rattle.qm_zomega.specs.Numbers.{zero_number, ◌⊕◌, ◌⊖◌}
use Rattle.qm_zomega.specs.NumberLists.{meant_at}
use Rattle.qm_kernels.specs.Done.{WrittenTo}
use Rattle.qm_kernels.specs.Halved.{half_of}
use Rattle.qm_kernels.proofs.halving.mix_halved.Given as goal

abbrev pub invariant-loop-i : goal.invariant-loop-i
invariant-loop-i g l = record {
  sums : WrittenTo g.Z.Numerator.meaning zero_number (λ i. half_of (meant_at g.Z.Numerator.meaning l.fn.low i ⊕ meant_at g.Z.Numerator.meaning l.fn.high i)) l.fn.low l.low l.i;
  differences : WrittenTo g.Z.Numerator.meaning zero_number (λ i. half_of (meant_at g.Z.Numerator.meaning l.fn.low i ⊖ meant_at g.Z.Numerator.meaning l.fn.high i)) l.fn.high l.high l.i;
}
