-- No Hadamard gate leaves the range as long as the exponent is at most 252 above the number of outcomes of protocol tapes
use Rattle.std.specs.Prelude.{ℕ, ◌+◌, ◌≤◌, List}
use Rattle.qm_denot.specs.declared.Wire.{Wire}
use Rattle.qm_denot.specs.Circuits.{Amplitudes}
use Rattle.qm_denot.specs.Stores.{IsReducedForm, LeavesRange}
use Rattle.qm_instr.specs.Programs.{Programs}
use Rattle.qm_proto.specs.declared.Cause.TheVariants as cause
use Rattle.qm_proto.specs.Model.Runs.{IsRefused}
use Rattle.qm_proto.specs.Model.Schedules.{replay}
use Rattle.qm_simulation.specs.Following.Deciding.{outcomes_done}
use Rattle.qm_safety.specs.Safety.Legal.{IsLegalRun}

-- after the schedule, whose circuit has these numbers in its reduced form, no `Had` leaves the range and no event is refused for that
pub record NeverOverflows (p : Programs) (schedule : List ℕ) (u : Amplitudes) : Type 0 where
  pub fits : (w : Wire) → ¬ LeavesRange u w
  pub allowed : (r : ℕ) → ¬ IsRefused p (replay p schedule) r cause.Overflow

-- after every legal schedule whose exponent is that small
abbrev pub ExponentLaw : Type 0
ExponentLaw = (p : Programs) (schedule : List ℕ) → IsLegalRun p schedule
    → (u : Amplitudes) (k : ℕ) → IsReducedForm u k (replay p schedule).circuit → k ≤ outcomes_done p schedule + 252
    → NeverOverflows p schedule u
