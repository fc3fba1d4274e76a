use Rattle.qm_machine.proofs.Steps.{keeps}
use Rattle.qm_machine.proofs.machine.Machine.state.Goals as goal

pub returns-in-Some-clause-kept : goal.returns-in-Some-clause-kept
returns-in-Some-clause-kept g c = rw (← c.self.view_is) (keeps g.A.Amps.store c.self.inside.body c.self.invariant)

pub returns-in-None-clause-kept : goal.returns-in-None-clause-kept
returns-in-None-clause-kept g c = rw (← c.self.view_is) (keeps g.A.Amps.store c.self.inside.body c.self.invariant)

pub returns-in-None-2-clause-kept : goal.returns-in-None-2-clause-kept
returns-in-None-2-clause-kept g c = rw (← c.self.view_is) (keeps g.A.Amps.store c.self.inside.body c.self.invariant)
