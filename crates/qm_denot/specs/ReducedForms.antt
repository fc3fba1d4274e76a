-- Each circuit has one reduced form
use Rattle.std.specs.Prelude.{◌≡◌, ℕ}
use Rattle.qm_denot.specs.Wires.{Wires}
use Rattle.qm_denot.specs.Circuits.{Amplitudes, Circuit}
use Rattle.qm_denot.specs.Stores.{IsReducedForm}

-- numbers over root2^exponent are the reduced form of C, and no others are
pub record HasReducedForm (c : Circuit) : Type 0 where
  pub numbers : Amplitudes
  pub exponent : ℕ
  pub form : IsReducedForm numbers exponent c
  pub only : (f : Amplitudes) (k : ℕ) → IsReducedForm f k c → (k ≡ exponent) × ((x : Wires) → f x ≡ numbers x)

-- whatever the circuit
abbrev pub ReducedFormLaw : Type 0
ReducedFormLaw = (c : Circuit) → HasReducedForm c
