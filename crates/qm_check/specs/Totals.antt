-- How many events there are, and how many outcomes are taken
use Rattle.std.specs.Prelude.{◌≤◌, List, sum_by}
use Rattle.qm_limits.specs.declared.TheConstants.{MOST_INSTRUCTIONS, MOST_EVENTS, MOST_PROTOCOL}
use Rattle.qm_instr.specs.declared.Instr.{Instr}
use Rattle.qm_instr.specs.Counts.{events_of, protocol_of, own_of}
use Rattle.qm_instr.specs.Programs.{RankProgram}
use Rattle.qm_check.specs.declared.Totals.{Totals}

-- the totals of these instructions
abbrev pub totals_of : List Instr → Totals
totals_of is = record { events = sum_by events_of is; protocol = sum_by protocol_of is; own = sum_by own_of is }

-- the totals of these ranks
abbrev pub totals_over : List RankProgram → Totals
totals_over rs = record {
  events = sum_by (λ r. sum_by events_of r.instructions) rs;
  protocol = sum_by (λ r. sum_by protocol_of r.instructions) rs;
  own = sum_by (λ r. sum_by own_of r.instructions) rs;
}

-- no more than the instructions of all ranks can have
pub record HasFew (t : Totals) : Type 0 where
  pub events : t.events ≤ MOST_EVENTS
  pub protocol : t.protocol ≤ MOST_PROTOCOL
  pub own : t.own ≤ MOST_INSTRUCTIONS
