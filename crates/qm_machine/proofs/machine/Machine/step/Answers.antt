use Rattle.std.proofs.Common.{◌≡◌, None, sym, ◌∙◌}
use Rattle.qm_machine.specs.Views.{tables}
use Rattle.qm_machine.proofs.Halting.{never_overflows, impossible_at_measure, never_stuck}
use Rattle.qm_machine.proofs.RowsRead.{rule_known}
use Rattle.qm_machine.proofs.Steps.{none_by, keeps, step_ended}
use Rattle.qm_machine.proofs.machine.Machine.step.Goals as goal

pub lacks-requires : goal.lacks-requires
lacks-requires g c =
    let p = c.self.inside.ready in
    let next = rw c.input-input.ensures.value at c.in-Some.ensures in
    rw c.input-input.ensures.value
    (record {
      known = rule_known p (tables c.self.inside.body.books) c.args.rank c.in-Some.row (sym next) c.self.invariant.ready;
      same = c.self.invariant.ranks;
      sizes = c.self.invariant.sizes;
    })

pub returns-in-None-clause-step : goal.returns-in-None-clause-step
returns-in-None-clause-step g c =
    let running : c.self.inside.halted ≡ None = none_by c.self.inside.halted (sym c.is_some.ensures ∙ c.if-is_some.false) in
    let next = rw c.input-input.ensures.value at c.in-None.ensures in
    rw (← c.self.view_is) (step_ended g.A.Amps.store c.self.inside.body c.self.invariant c.args.rank running (sym next))

-- what the machine kept before the step, so that the laws of runs rule a halt out
pub returns-in-None-lacks-clause-overflow : goal.returns-in-None-lacks-clause-overflow
returns-in-None-lacks-clause-overflow g c =
    never_overflows g.A.Amps.store c.args.self.now c.go.new.self c.args.rank c.go.result c.go.ensures.step
    (rw (← c.self.view_is) (keeps g.A.Amps.store c.self.inside.body c.self.invariant))

pub returns-in-None-lacks-clause-impossible : goal.returns-in-None-lacks-clause-impossible
returns-in-None-lacks-clause-impossible g c =
    impossible_at_measure g.A.Amps.store c.args.self.now c.go.new.self c.args.rank c.go.result c.go.ensures.step

pub returns-in-None-lacks-clause-stuck : goal.returns-in-None-lacks-clause-stuck
returns-in-None-lacks-clause-stuck g c =
    never_stuck g.A.Amps.store c.args.self.now c.go.new.self c.args.rank c.go.result c.go.ensures.step
    (rw (← c.self.view_is) (keeps g.A.Amps.store c.self.inside.body c.self.invariant))

pub returns-in-Some-lacks-clause-overflow : goal.returns-in-Some-lacks-clause-overflow
returns-in-Some-lacks-clause-overflow g c =
    never_overflows g.A.Amps.store c.args.self.now c.wait.new.self c.args.rank c.wait.result c.wait.ensures.step
    (rw (← c.self.view_is) (keeps g.A.Amps.store c.self.inside.body c.self.invariant))

pub returns-in-Some-lacks-clause-impossible : goal.returns-in-Some-lacks-clause-impossible
returns-in-Some-lacks-clause-impossible g c =
    impossible_at_measure g.A.Amps.store c.args.self.now c.wait.new.self c.args.rank c.wait.result c.wait.ensures.step

pub returns-in-Some-lacks-clause-stuck : goal.returns-in-Some-lacks-clause-stuck
returns-in-Some-lacks-clause-stuck g c =
    never_stuck g.A.Amps.store c.args.self.now c.wait.new.self c.args.rank c.wait.result c.wait.ensures.step
    (rw (← c.self.view_is) (keeps g.A.Amps.store c.self.inside.body c.self.invariant))
