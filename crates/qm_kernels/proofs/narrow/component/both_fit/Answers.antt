use Rattle.std.proofs.Common.{arith}
use Rattle.std.proofs.lemmas.Int.{ints}
use Rattle.qm_kernels.proofs.Bools.{both_true}
use Rattle.qm_kernels.proofs.narrow.component.both_fit.Goals as goal

pub returns : goal.returns
returns c =
    let p = c.is_part in
    let q = c.is_part-2 in (
      (λ h.
          let both = (both_true p.result q.result).0 h in
          let sum = p.ensures.0 both.0 in
          let difference = q.ensures.0 both.1 in
          (omega (arith, ints, sum), omega (arith, ints, difference))),
      (λ h.
          let sum = h.0 in
          let difference = h.1 in
          (both_true p.result q.result).1 (p.ensures.1 (omega (arith, ints, sum)), q.ensures.1 (omega (arith, ints, difference)))),
    )
