use Rattle.std.proofs.Common.{◌≤◌, vec_capacity, arith}
use Rattle.qm_check.specs.Checks.{IsReady}
use Rattle.qm_proto.specs.Model.Totals.{event_total}
use Rattle.qm_machine.proofs.Starts.{kept_at_start}
use Rattle.qm_machine.proofs.machine.Machine.start.Goals as goal

pub invariant_of-result : goal.invariant_of-result
invariant_of-result g c =
    let turns : event_total c.args.ready ≤ vec_capacity c.in_ok-schedule.schedule = omega (arith, c.in_ok-schedule.ensures.capacity) in
    let ready : IsReady c.args.ready = rw c.ready.view_is at c.ready.invariant.ready in
    kept_at_start _ c.args.ready (g.A.Amps.store c.args.amps) _ _ _ c.requires.read ready c.in_ok-body.ensures.in_range c.in_ok-body.ensures.start
    c.requires.stands c.requires.live c.requires.room turns c.in_ok-schedule.ensures.items
