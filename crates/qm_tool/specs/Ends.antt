-- What ranks have at the end of a run, as a state text says it
use Rattle.std.specs.Prelude.{◌≡◌, ℕ, ◌<◌, ◌≤◌, Bool, List, length, slice_index}
use Rattle.qm_denot.specs.Circuits.{Amplitudes}
use Rattle.qm_limits.specs.declared.TheConstants.{MOST_RANKS}
use Rattle.qm_instr.specs.Programs.{Programs}
use Rattle.qm_proto.specs.Model.Schedules.{protocol_total}
use Rattle.qm_instr.specs.Bits.{number_of_bits}
use Rattle.qm_machine.specs.Keeps.{MachineView, state_of}
use Rattle.qm_print.specs.declared.Head.{Head}
use Rattle.qm_print.specs.declared.Live.{Live}
use Rattle.qm_print.specs.StateText.{state_lines}

-- the classical bits of a machine's ranks
abbrev pub bits_in : {A : Type 0} → MachineView A → ℕ → List Bool
bits_in m r = ((state_of m).tables.parts r).bits

-- the head says how many ranks the programs have, their protocol total, their bits and this scale
pub record HeadSays (p : Programs) (bits : ℕ → List Bool) (scale : ℕ) (head : Head) : Type 0 where
  pub ranks : head.ranks ≡ length p.ranks
  pub few : head.ranks ≤ MOST_RANKS
  pub protocol : head.protocol ≡ protocol_total p
  pub scale_so : head.scale ≡ scale
  pub bits_so : (r : ℕ) → r < length p.ranks → slice_index head.bits r ≡ number_of_bits (bits r)

-- the state text of a head, full slots and numerators
abbrev pub text_under : Head → List Live → Amplitudes → List ℕ
text_under head live u = state_lines head.ranks head.protocol head.scale (slice_index head.bits) live u
