use Rattle.std.proofs.Common.{rules, ◌≤◌, ◌<◌, ◌^◌, Bool, true, false, arith}
use mir.Val.{bool_byte}
use Rattle.qm_ideal.specs.Views.{tables_of}
use Rattle.qm_ideal.proofs.NumberLemmas.{left_few}
use Rattle.qm_ideal.proofs.one_circuit.ranks_left.Goals as goal

bit_few : (b : Bool) → bool_byte b ≤ 1
bit_few true = omega arith
bit_few false = omega arith

pub overflow_mul-left : goal.overflow_mul-left
overflow_mul-left c =
    let few : c.loop-k.left < 2 ^ 15 = left_few c.args.input.now (tables_of c.args.tables.now) _ c.loop-k.k c.loop-k.left c.loop-k.invariant.0 (omega (arith, c.requires.few, c.loop-k-test.true)) in
    omega (arith, few)

pub overflow_add-left : goal.overflow_add-left
overflow_add-left c =
    let few : c.loop-k.left < 2 ^ 15 = left_few c.args.input.now (tables_of c.args.tables.now) _ c.loop-k.k c.loop-k.left c.loop-k.invariant.0 (omega (arith, c.requires.few, c.loop-k-test.true)) in
    omega (arith, few, c.from.ensures, bit_few c.is_some.result)

pub loop-k-preserved : goal.loop-k-preserved
loop-k-preserved c = search rules
