use Rattle.std.proofs.Common.{◌≤◌, ◌<◌, ◌-◌, ◌^◌, drop, length-drop, get_or, Bool, true, false, sym, ap, arith}
use mir.Val.{bool_byte}
use Rattle.std.proofs.Math.ListN.{drop_of_length-le}
use Rattle.qm_instr.specs.Bits.{number_of_bits}
use Rattle.qm_instr.proofs.BitLemmas.{number_of_bits-below}
use Rattle.qm_instr.proofs.bits.number_of_bits.Goals as goal

-- a bit as a number
bit_few : (b : Bool) → bool_byte b ≤ 1
bit_few true = omega arith
bit_few false = omega arith

pub loop-k-init : goal.loop-k-init
loop-k-init c = ap number_of_bits (sym (drop_of_length-le c.args.bits.now {i = 32} (omega arith)))

pub overflow_mul-number : goal.overflow_mul-number
overflow_mul-number c =
    let seen = drop (32 - c.loop-k.k) c.args.bits.now in
    let few : number_of_bits seen < 2 ^ 31 = number_of_bits-below seen 31 (simp length-drop (omega arith)) in
    omega arith

pub overflow_add-number : goal.overflow_add-number
overflow_add-number c =
    let seen = drop (32 - c.loop-k.k) c.args.bits.now in
    let few : number_of_bits seen < 2 ^ 31 = number_of_bits-below seen 31 (simp length-drop (omega arith)) in
    omega (arith, c.from.ensures, bit_few (get_or c.args.bits.now (31 - c.loop-k.k) false))
