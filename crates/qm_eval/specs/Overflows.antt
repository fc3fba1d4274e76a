-- The letter at which the amplitudes of a circuit leave the range of the numbers
use Rattle.std.specs.Prelude.{◌≡◌, ℕ, ◌<◌, Some, take, slice_get}
use Rattle.qm_denot.specs.declared.Wire.{Wire}
use Rattle.qm_denot.specs.declared.Letter.TheVariants.{Had}
use Rattle.qm_denot.specs.Circuits.{Circuit}
use Rattle.qm_proto.specs.declared.Check.TheVariants.{Fits}
use Rattle.qm_proto.specs.Model.Runs.{Fails}

-- letter number `at` of C is a `Had`, and a component of its unreduced result leaves the range, where the letters before it have their
-- reduced form
pub record OverflowsAt (c : Circuit) (at : ℕ) : Type 0 where
  pub wire : Wire
  pub letter : slice_get c at ≡ Some (Had wire)
  pub leaves : Fails (take at c) (Fits wire)

-- and no letter before it does so
pub record IsFirstOverflow (c : Circuit) (at : ℕ) : Type 0 where
  pub overflows : OverflowsAt c at
  pub first : (k : ℕ) → k < at → ¬ OverflowsAt c k

-- no letter of C does so
abbrev pub NeverOverflows : Circuit → Type 0
NeverOverflows c = (k : ℕ) → ¬ OverflowsAt c k
