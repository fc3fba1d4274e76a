use Rattle.std.proofs.Common.{◌&&◌, arith}
use Rattle.std.proofs.lemmas.Int.{ints}
use Rattle.qm_zomega.specs.Numbers.{plus, minus}
use Rattle.qm_kernels.proofs.Bools.{both_true}
use Rattle.qm_kernels.proofs.narrow.numerator.NarrowNumerator.fits.Goals as goal

pub returns : goal.returns
unfolding plus minus
returns c =
    let p = c.both_fit in
    let q = c.both_fit-2 in
    let r = c.both_fit-3 in
    let s = c.both_fit-4 in (
      (λ h.
          let first = (both_true ((p.result && q.result) && r.result) s.result).0 h in
          let second = (both_true (p.result && q.result) r.result).0 first.0 in
          let third = (both_true p.result q.result).0 second.0 in
          let in_a = p.ensures.0 third.0 in
          let in_b = q.ensures.0 third.1 in
          let in_c = r.ensures.0 second.1 in
          let in_d = s.ensures.0 first.1 in (
            record { a_below = omega (arith, ints, in_a.0); b_below = omega (arith, ints, in_b.0); c_below = omega (arith, ints, in_c.0); d_below = omega (arith, ints, in_d.0) },
            record { a_below = omega (arith, ints, in_a.1); b_below = omega (arith, ints, in_b.1); c_below = omega (arith, ints, in_c.1); d_below = omega (arith, ints, in_d.1) },
          )),
      (λ z.
          let a = p.ensures.1 (omega (arith, ints, z.0.a_below), omega (arith, ints, z.1.a_below)) in
          let b = q.ensures.1 (omega (arith, ints, z.0.b_below), omega (arith, ints, z.1.b_below)) in
          let c = r.ensures.1 (omega (arith, ints, z.0.c_below), omega (arith, ints, z.1.c_below)) in
          let d = s.ensures.1 (omega (arith, ints, z.0.d_below), omega (arith, ints, z.1.d_below)) in
          (both_true ((p.result && q.result) && r.result) s.result).1
          ((both_true (p.result && q.result) r.result).1 ((both_true p.result q.result).1 (a, b), c), d)),
    )
