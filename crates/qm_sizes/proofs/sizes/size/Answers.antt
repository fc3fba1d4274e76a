use Rattle.std.proofs.Common.{◌≡◌, ◌∙◌, ◌≤◌, ◌^◌, ℤ, unsigned_abs, to_z, of_z, arith}
use Rattle.std.proofs.lemmas.Int.{to_z-of_z, fits_signed_from_abs}
use Rattle.qm_zomega.specs.Zw.{value_of}
use Rattle.qm_sizes.proofs.Squares.{size_from}
use Rattle.qm_sizes.proofs.sizes.size.Goals as goal
use mir.Syntax.{w128}

back : (x : ℤ) → unsigned_abs x ≤ 2 ^ 40 → to_z w128 (of_z w128 x) ≡ x
back x small = to_z-of_z w128 x (fits_signed_from_abs w128 x (omega (arith, small)))

pub returns-clause-value : goal.returns-clause-value
returns-clause-value c =
    size_from (value_of c.args.z) _ _ (back c.norm-whole.result c.norm-whole.ensures.small ∙ c.norm-whole.ensures.value)
    (back c.crossed-root.result c.crossed-root.ensures.small ∙ c.crossed-root.ensures.value)
