use Rattle.std.proofs.Common.{◌≡◌, ◌-◌, drop}
use Rattle.qm_instr.specs.Bits.{number_of_bits}
use Rattle.qm_instr.proofs.bits.number_of_bits.Given as goal

abbrev pub invariant-loop-k : goal.invariant-loop-k
invariant-loop-k l = l.number ≡ number_of_bits (drop (32 - l.k) l.bits)
