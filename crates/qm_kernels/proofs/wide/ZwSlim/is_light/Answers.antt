use Rattle.std.proofs.Common.{arith}
use Rattle.std.proofs.lemmas.Int.{ints}
use Rattle.qm_kernels.proofs.wide.ZwSlim.is_light.Goals as goal

pub returns : goal.returns
returns c = λ h.
    let s = c.is_small.ensures.0 h in
    record {
      a_below = omega (arith, ints, s.a_small.low, s.a_small.high);
      b_below = omega (arith, ints, s.b_small.low, s.b_small.high);
      c_below = omega (arith, ints, s.c_small.low, s.c_small.high);
      d_below = omega (arith, ints, s.d_small.low, s.d_small.high);
    }
