use Rattle.std.proofs.Common.{◌≡◌, ◌∙◌, ◌≤◌, ◌^◌, ℤ, ◌+ℤ◌, ap, unsigned_abs, to_z, of_z, arith}
use Rattle.std.proofs.lemmas.Int.{to_z-of_z, fits_signed_from_abs, ints}
use Rattle.qm_sizes.specs.Parts.{surd_of}
use Rattle.qm_sizes.proofs.Heavy.{sum_few}
use Rattle.qm_sizes.proofs.sums.light_sum.Goals as goal
use mir.Syntax.{w128}

back : (x : ℤ) → unsigned_abs x ≤ 2 ^ 40 → to_z w128 (of_z w128 x) ≡ x
back x small = to_z-of_z w128 x (fits_signed_from_abs w128 x (omega (arith, small)))

pub returns-clause-few : goal.returns-clause-few
returns-clause-few c =
    let x = c.requires.x in
    let y = c.requires.y in
    let e = c.sum-whole.ensures in
    let f = c.sum-root.ensures in
    let xw = back c.args.x.whole (omega (arith, x.few)) in
    let yw = back c.args.y.whole (omega (arith, y.few)) in
    let xr = back c.args.x.root (omega (arith, x.few, x.root)) in
    let yr = back c.args.y.root (omega (arith, y.few, y.root)) in
    let few : unsigned_abs c.sum-whole.result ≤ 2 ^ 40 = omega (arith, e.small, x.few, y.few, xw, yw, ap unsigned_abs xw, ap unsigned_abs yw) in
    let first = back c.sum-whole.result few in
    let small : unsigned_abs c.sum-root.result ≤ 2 ^ 40 = omega (arith, f.small, x.few, y.few, x.root, y.root, ap unsigned_abs xr, ap unsigned_abs yr) in
    let second = back c.sum-root.result small in
    let whole : c.sum-whole.result ≡ c.args.x.whole +ℤ c.args.y.whole = omega (arith, ints, e.value, xw, yw) in
    let root : c.sum-root.result ≡ c.args.x.root +ℤ c.args.y.root = omega (arith, ints, f.value, xr, yr) in
    sum_few (surd_of c.args.x) (surd_of c.args.y) _ _ x y (first ∙ whole) (second ∙ root) (let low = c.if-whole-gt-MOST_WHOLE.false in omega (arith, ints, first, low))
