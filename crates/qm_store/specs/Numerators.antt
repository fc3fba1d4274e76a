-- The list of numerators that is kept in narrow or in wide numbers
use Rattle.std.specs.Prelude.{ℤ, List, [], ◌∷◌, if◌then◌else◌}
use Rattle.std.proofs.Common.{arith}
use Rattle.std.proofs.lemmas.Int.{ints}
use Rattle.qm_zomega.specs.declared.Zw.{Zw}
use Rattle.qm_zomega.specs.Range.{IsInRange}
use Rattle.qm_kernels.specs.Parts.{IsPart}
use Rattle.qm_kernels.specs.declared.narrow.Narrow.{Narrow}
use Rattle.qm_store.specs.declared.numerators.Numerators.{Numerators}

-- a narrow component is in the range of 128 bits
pub in_range : (x : ℤ) → IsPart x → IsInRange x
in_range x part = omega (arith, ints, part)

-- the same number with components of 128 bits
abbrev pub widen : Narrow → Zw
widen z = record {
  a = z.a;
  b = z.b;
  c = z.c;
  d = z.d;
  a_fits = in_range z.a z.a_fits;
  b_fits = in_range z.b z.b_fits;
  c_fits = in_range z.c z.c_fits;
  d_fits = in_range z.d z.d_fits;
}

-- the same numbers
abbrev pub widened : List Narrow → List Zw
widened [] = []
widened (x ∷ xs) = widen x ∷ widened xs

-- the numbers that are kept
abbrev pub items_of : Numerators → List Zw
items_of s = if s.is_wide then s.wide.items else widened s.narrow.items
