-- Tests of two bits
use Rattle.std.proofs.Common.{◌≡◌, Bool, true, false, not, ◌&&◌, refl}
use mathlib.Core.Bool.{beq}
use Rattle.qm_denot.specs.Circuits.{same_bit}

-- bits that the program found equal are the same
pub same_bit-equal : (a b : Bool) → not (beq a b) ≡ false → same_bit a b ≡ true
same_bit-equal true true e = refl
same_bit-equal false false e = refl
same_bit-equal true false e = cc
same_bit-equal false true e = cc

pub both-false_left : (a b : Bool) → a ≡ false → (a && b) ≡ false
both-false_left a b e = rw e refl

pub both-false_right : (a b : Bool) → b ≡ false → (a && b) ≡ false
both-false_right true b e = e
both-false_right false b e = refl
