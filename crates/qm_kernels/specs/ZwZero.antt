-- The value 0 of a `Zw`
use Rattle.std.specs.Prelude.{pos}
use Rattle.std.proofs.Common.{arith}
use Rattle.qm_zomega.specs.declared.Zw.{Zw}
use Rattle.qm_zomega.specs.Range.{IsInRange}

-- 0 is in the range
pub zero_in_range : IsInRange (pos 0)
zero_in_range = omega arith

-- the value 0
abbrev pub zero_zw : Zw
zero_zw = record { a = pos 0; b = pos 0; c = pos 0; d = pos 0; a_fits = zero_in_range; b_fits = zero_in_range; c_fits = zero_in_range; d_fits = zero_in_range }
