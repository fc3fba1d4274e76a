use Rattle.std.proofs.Common.{◌≡◌, ◌++◌}
use Rattle.qm_check.specs.Tallies.{sends_listed}
use Rattle.qm_check.proofs.messages.send_counts.Given as goal

abbrev pub invariant-loop-lane : goal.invariant-loop-lane
invariant-loop-lane l =
    l.counts.items ++ sends_listed l.lane-iterator ≡ sends_listed l.tallies.entries
