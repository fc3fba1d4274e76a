-- What narrow numbers stand for
use Rattle.std.specs.Prelude.{pos}
use Rattle.std.proofs.Common.{arith}
use Rattle.qm_zomega.specs.Numbers.{Number, number}
use Rattle.qm_kernels.specs.Parts.{IsPart}
use Rattle.qm_kernels.specs.declared.narrow.Narrow.{Narrow}

-- the number that a `Narrow` stands for
abbrev pub narrow_value : Narrow → Number
narrow_value z = number z.a z.b z.c z.d

-- 0 is a component
pub zero_fits : IsPart (pos 0)
zero_fits = omega arith

-- the value 0
abbrev pub zero_narrow : Narrow
zero_narrow = record { a = pos 0; b = pos 0; c = pos 0; d = pos 0; a_fits = zero_fits; b_fits = zero_fits; c_fits = zero_fits; d_fits = zero_fits }
