use Rattle.std.proofs.Common.{◌&&◌, arith}
use Rattle.std.proofs.lemmas.Int.{ints}
use Rattle.qm_kernels.specs.Small.{IsSmallPart}
use Rattle.qm_kernels.proofs.Bools.{both_true}
use Rattle.qm_kernels.proofs.small.is_small.Goals as goal

pub returns : goal.returns
returns c =
    let p = c.is_small_part in
    let q = c.is_small_part-2 in
    let r = c.is_small_part-3 in
    let s = c.is_small_part-4 in (
      (λ h.
          let first = (both_true ((p.result && q.result) && r.result) s.result).0 h in
          let second = (both_true (p.result && q.result) r.result).0 first.0 in
          let third = (both_true p.result q.result).0 second.0 in
          let a_part = p.ensures.0 third.0 in
          let b_part = q.ensures.0 third.1 in
          let c_part = r.ensures.0 second.1 in
          let d_part = s.ensures.0 first.1 in
          let a_small : IsSmallPart c.args.z.a = record { low = omega (arith, ints, a_part.low); high = omega (arith, ints, a_part.high) } in
          let b_small : IsSmallPart c.args.z.b = record { low = omega (arith, ints, b_part.low); high = omega (arith, ints, b_part.high) } in
          let c_small : IsSmallPart c.args.z.c = record { low = omega (arith, ints, c_part.low); high = omega (arith, ints, c_part.high) } in
          let d_small : IsSmallPart c.args.z.d = record { low = omega (arith, ints, d_part.low); high = omega (arith, ints, d_part.high) } in
          record { a_small = a_small; b_small = b_small; c_small = c_small; d_small = d_small }),
      (λ z.
          let a = p.ensures.1 (record { low = omega (arith, ints, z.a_small.low); high = omega (arith, ints, z.a_small.high) }) in
          let b = q.ensures.1 (record { low = omega (arith, ints, z.b_small.low); high = omega (arith, ints, z.b_small.high) }) in
          let c = r.ensures.1 (record { low = omega (arith, ints, z.c_small.low); high = omega (arith, ints, z.c_small.high) }) in
          let d = s.ensures.1 (record { low = omega (arith, ints, z.d_small.low); high = omega (arith, ints, z.d_small.high) }) in
          (both_true ((p.result && q.result) && r.result) s.result).1
          ((both_true (p.result && q.result) r.result).1 ((both_true p.result q.result).1 (a, b), c), d)),
    )
