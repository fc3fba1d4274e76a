use Rattle.std.proofs.Common.{◌≡◌, arith, true}
use Rattle.std.proofs.lemmas.Int.{ints}
use Rattle.qm_kernels.specs.Narrow.{narrow_value}
use Rattle.qm_zomega.proofs.Laws.{quarters, divisible_where}
use Rattle.qm_kernels.proofs.narrow.Narrow.halvable.Goals as goal

pub returns-then-is_even_sum : goal.returns-then-is_even_sum
returns-then-is_even_sum c = (
  (λ t. let p = c.is_even_sum.ensures.0 c.if-is_even_sum.true in
      let q = c.is_even_sum-then-is_even_sum.ensures.0 t in
      divisible_where (narrow_value c.args.self) p.0 q.0 (omega (arith, ints, p.1)) (omega (arith, ints, q.1))),
  (λ h. let q = quarters (narrow_value c.args.self) h.0 h.1 in c.is_even_sum-then-is_even_sum.ensures.1 (h.0.c, omega (arith, ints))),
)

pub returns-else-is_even_sum : goal.returns-else-is_even_sum
returns-else-is_even_sum c = (
  (λ t. let e : c.is_even_sum.result ≡ true = t in absurd (let f = c.if-is_even_sum.false in cc)),
  (λ h. let q = quarters (narrow_value c.args.self) h.0 h.1 in c.is_even_sum.ensures.1 (h.0.b, omega (arith, ints))),
)
