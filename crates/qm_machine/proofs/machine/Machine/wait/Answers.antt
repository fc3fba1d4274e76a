use Rattle.std.proofs.Common.{rules}
use Rattle.qm_proto.specs.Model.Schedules.{replay, IsStuck, NoneEnabled}
use Rattle.qm_machine.specs.Views.{tables}
use Rattle.qm_machine.proofs.Steps.{at_body, step_blocked}
use Rattle.qm_machine.proofs.machine.Machine.wait.Goals as goal

pub returns-then-any_enabled-clause-step : goal.returns-then-any_enabled-clause-step
returns-then-any_enabled-clause-step g c =
    let p = c.self.inside.ready in
    let wait = rw (← c.self.view_is) at c.requires in
    let here : ¬ (NoneEnabled p (tables c.self.inside.body.books)) = rw c.input-input.ensures.value at (c.any_enabled.ensures.some c.if-any_enabled.true) in
    let moves = λ (stuck : IsStuck p (replay p c.self.inside.schedule.items).tables). here (at_body c.self.invariant (NoneEnabled p) stuck.none) in
    rw (← c.self.view_is) (step_blocked g.A.Amps.store c.self.inside.body c.self.invariant c.args.rank c.args.why wait moves)

pub halt-requires : goal.halt-requires
halt-requires g c = search rules
