use Rattle.std.proofs.Common.{◌≤◌, arith}
use Rattle.qm_check.specs.Checks.{capacity_of}
use Rattle.qm_tool.proofs.Capacities.{ready_capacity}
use Rattle.qm_tool.proofs.running.machine_of.Goals as goal

pub start-requires : goal.start-requires
start-requires c =
    let few : capacity_of c.args.ready ≤ 22 = ready_capacity c.args.ready c.requires.ready in
    omega (arith, c.capacity.ensures, few)
