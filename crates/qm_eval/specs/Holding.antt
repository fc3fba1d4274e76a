-- A store that holds the amplitudes of the one circuit
use Rattle.std.specs.Prelude.{◌≡◌, ℕ, Some, Contains}
use Rattle.qm_denot.specs.declared.Wire.{Wire}
use Rattle.qm_denot.specs.Stores.{Store, StandsFor}
use Rattle.qm_ideal.specs.OneCircuits.{OneView, slot_of}
use Rattle.qm_eval.specs.Overflows.{NeverOverflows}

-- two slots are one
pub record IsOneSlot (r q k j : ℕ) : Type 0 where
  pub rank : r ≡ k
  pub slot : q ≡ j

-- no letter of the circuit leaves the range, the store stands for the circuit, and each wire in a slot at the circuit's end is live in
-- the store and stands in no other slot
pub record HoldsCircuit (m : OneView) (s : Store) : Type 0 where
  pub fits : NeverOverflows m.letters
  pub stands : StandsFor s m.letters
  pub live : (r q : ℕ) (w : Wire) → slot_of m r q ≡ Some w → Contains s.live w
  pub once : (r q k j : ℕ) (w : Wire) → slot_of m r q ≡ Some w → slot_of m k j ≡ Some w → IsOneSlot r q k j
