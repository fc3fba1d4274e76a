use Rattle.std.proofs.Common.{◌&&◌, arith}
use Rattle.std.proofs.lemmas.Int.{ints}
use Rattle.qm_kernels.proofs.Bools.{both_true}
use Rattle.qm_kernels.proofs.narrow.slim.NarrowSlim.is_light.Goals as goal

pub returns : goal.returns
returns c =
    let p = c.is_light_part in
    let q = c.is_light_part-2 in
    let r = c.is_light_part-3 in
    let s = c.is_light_part-4 in
    λ h.
    let first = (both_true ((p.result && q.result) && r.result) s.result).0 h in
    let second = (both_true (p.result && q.result) r.result).0 first.0 in
    let third = (both_true p.result q.result).0 second.0 in
    record {
      a_below = omega (arith, ints, p.ensures.0 third.0);
      b_below = omega (arith, ints, q.ensures.0 third.1);
      c_below = omega (arith, ints, r.ensures.0 second.1);
      d_below = omega (arith, ints, s.ensures.0 first.1);
    }
