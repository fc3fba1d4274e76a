use Rattle.qm_machine.proofs.Steps.{keeps}
use Rattle.qm_machine.proofs.machine.Machine.schedule.Goals as goal

pub returns-clause-kept : goal.returns-clause-kept
returns-clause-kept g c = rw (← c.self.view_is) (keeps g.A.Amps.store c.self.inside.body c.self.invariant)
