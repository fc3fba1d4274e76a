use Rattle.std.proofs.Common.{◌-◌, length}
use Rattle.qm_proto.specs.Model.Orders.{from_the_lowest}
use Rattle.qm_ranks.proofs.Playing.{PlaysSoFar}
use Rattle.qm_ranks.proofs.play_order.Given as goal

abbrev pub invariant-loop : goal.invariant-loop
invariant-loop g l = PlaysSoFar g.A.Amps.store l.fn.machine l.machine from_the_lowest from_the_lowest

abbrev pub decreases-loop : goal.decreases-loop
decreases-loop g l = 500001 - length l.machine.schedule
