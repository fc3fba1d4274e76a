-- The outcome that a word gives at a measurement: one where the word is below the share of one in all sizes
use Rattle.std.specs.Prelude.{◌≡◌, ℕ, ◌/◌, ◌^◌, ◌<◌, Bool, true, false, List, [], ◌∷◌, if◌then◌else◌}
use Rattle.qm_zomega.specs.Numbers.{norm}
use Rattle.qm_sizes.specs.Surds.{Surd, nought, plus, scaled, is_below}
use Rattle.qm_sizes.specs.Sizes.{size}
use Rattle.qm_denot.specs.declared.Wire.{Wire}
use Rattle.qm_denot.specs.Wires.{Wires, has, put, no_wires}
use Rattle.qm_denot.specs.Circuits.{Circuit, Amplitudes}
use Rattle.qm_denot.specs.Stores.{IsReducedForm}
use Rattle.qm_denot.specs.Weights.{total, names}

-- the sum of f over x with each choice of the wires of a list
abbrev pub surd_total : List Wire → (Wires → Surd) → Wires → Surd
surd_total [] f x = f x
surd_total (w ∷ ws) f x = plus (surd_total ws f (put x w false)) (surd_total ws f (put x w true))

-- of the numbers on these wires: the sum of all sizes
abbrev pub all_sizes : List Wire → Amplitudes → Surd
all_sizes ws u = surd_total ws (λ x. size (u x)) no_wires

-- and the sum of the sizes where w is one
abbrev pub sizes_with : List Wire → Wire → Amplitudes → Surd
sizes_with ws w u = surd_total ws (λ x. if has x w then size (u x) else nought) no_wires

-- the outcome that a word gives for a measurement of w after C, by its upper 24 bits r. With W the sum of all sizes of the numbers of
-- C's reduced form, and V that of the sizes where w is one, it is one exactly where r W < 2^24 V, as real numbers
pub record IsGiven (c : Circuit) (w : Wire) (word : ℕ) (m : Bool) : Type 0 where
  pub numbers : Amplitudes
  pub exponent : ℕ
  pub form : IsReducedForm numbers exponent c
  pub value : m ≡ is_below (scaled (word / 2 ^ 8) (all_sizes (names c) numbers)) (scaled (2 ^ 24) (sizes_with (names c) w numbers))

-- a measurement after C is heavy: the whole part of W, which is the sum of N over the numbers of C's reduced form, is above 2^37
pub record IsHeavy (c : Circuit) : Type 0 where
  pub numbers : Amplitudes
  pub exponent : ℕ
  pub form : IsReducedForm numbers exponent c
  pub above : 2 ^ 37 < total (names c) (λ x. norm (numbers x)) no_wires
