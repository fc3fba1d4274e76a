-- Tables in which wires are only where ranks have room for them
use Rattle.std.specs.Prelude.{◌≡◌, ℕ, ◌<◌, ◌≤◌, true, Some, length}
use Rattle.qm_denot.specs.declared.Wire.{Wire}
use Rattle.qm_denot.specs.Wires.{has}
use Rattle.qm_instr.specs.Programs.{Programs, rank_of}
use Rattle.qm_proto.specs.Model.State.{Tables}
use Rattle.qm_proto.specs.Model.Runs.{halves}

-- wires are only in slots that there are and among halves of ranks that there are, and no rank has more halves than its buffer holds
pub record IsRoomy (p : Programs) (t : Tables) : Type 0 where
  pub slot_known : (r q : ℕ) (w : Wire) → t.slots r q ≡ Some w → (r < length p.ranks) × (q < (rank_of p r).qubits)
  pub near_known : (r : ℕ) (w : Wire) → has (t.near r) w ≡ true → r < length p.ranks
  pub far_known : (r : ℕ) (w : Wire) → has (t.far r) w ≡ true → r < length p.ranks
  pub halves_few : (r : ℕ) → r < length p.ranks → halves t r ≤ (rank_of p r).buffer
