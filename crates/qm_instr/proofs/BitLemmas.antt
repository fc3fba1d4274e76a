-- Bits make a number below a power of two
use Rattle.std.proofs.Common.{ℕ, zero, suc, Bool, true, false, if◌then◌else◌, List, [], ◌∷◌, length, ◌≤◌, ◌<◌, ◌^◌, arith}
use Rattle.std.proofs.lemmas.Nat.{pow_pos}
use Rattle.std.proofs.Math.Nat.{pow-succ'}
use Rattle.qm_instr.specs.Bits.{number_of_bits}

pub digit_few : (b : Bool) → (if b then 1 else 0) ≤ 1
digit_few true = omega arith
digit_few false = omega arith

pub number_of_bits-below : (bs : List Bool) (n : ℕ) → length bs ≤ n → number_of_bits bs < 2 ^ n
number_of_bits-below [] n few = pow_pos n
number_of_bits-below (b ∷ bs) zero few = absurd (omega arith)
number_of_bits-below (b ∷ bs) (suc n) few =
    let rest : number_of_bits bs < 2 ^ n = number_of_bits-below bs n (omega arith) in
    omega (arith, digit_few b, pow-succ' 2 n)
