use Rattle.std.proofs.Common.{arith}
use Rattle.std.proofs.lemmas.Int.{ints}
use Rattle.qm_zomega.proofs.Laws.{quarters, from_quarters}
use Rattle.qm_kernels.proofs.narrow.Narrow.root_half.Goals as goal

pub half_difference-requires-clause-even : goal.half_difference-requires-clause-even
half_difference-requires-clause-even c = let q = quarters _ c.requires.0 c.requires.1 in (c.requires.0.a, omega (arith, ints))

pub half_sum-requires-clause-even : goal.half_sum-requires-clause-even
half_sum-requires-clause-even c = let q = quarters _ c.requires.0 c.requires.1 in (c.requires.0.b, omega (arith, ints))

pub half_sum-requires-2-clause-even : goal.half_sum-requires-2-clause-even
half_sum-requires-2-clause-even c = let q = quarters _ c.requires.0 c.requires.1 in (c.requires.0.c, omega (arith, ints))

pub half_difference-requires-2-clause-even : goal.half_difference-requires-2-clause-even
half_difference-requires-2-clause-even c = let q = quarters _ c.requires.0 c.requires.1 in (c.requires.0.d, omega (arith, ints))

pub returns : goal.returns
returns c = from_quarters _ _ (record { is_a = omega (arith, ints); is_b = omega (arith, ints); is_c = omega (arith, ints); is_d = omega (arith, ints) })

pub invariant_of-result : goal.invariant_of-result
invariant_of-result c =
    let z = c.args.self in
    record {
      a_fits = omega (arith, ints, c.half_difference.ensures, z.b_fits, z.d_fits);
      b_fits = omega (arith, ints, c.half_sum.ensures, z.a_fits, z.c_fits);
      c_fits = omega (arith, ints, c.half_sum-2.ensures, z.b_fits, z.d_fits);
      d_fits = omega (arith, ints, c.half_difference-2.ensures, z.c_fits, z.a_fits);
    }
