use Rattle.std.proofs.Common.{◌≡◌}
use Rattle.qm_check.specs.Tallies.{first_mismatch}
use Rattle.qm_check.proofs.messages.fault_of_lanes.Given as goal

abbrev pub invariant-loop-lane : goal.invariant-loop-lane
invariant-loop-lane l = first_mismatch l.tallies.entries ≡ first_mismatch l.lane-iterator
