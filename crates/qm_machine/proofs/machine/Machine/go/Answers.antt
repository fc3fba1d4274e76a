use Rattle.std.proofs.Common.{◌≡◌, ◌<◌, true, Some, length, vec_capacity, sym, subst, inr, arith}
use Rattle.qm_proto.specs.Model.Acts.{list_of}
use Rattle.qm_proto.specs.Model.Runs.{row_next, enabled}
use Rattle.qm_proto.specs.Model.State.{Tables}
use Rattle.qm_machine.specs.Facts.{Facts}
use Rattle.qm_machine.specs.Keeps.{IsKept}
use Rattle.qm_machine.specs.Views.{facts}
use Rattle.qm_machine.proofs.Chains.{advanced, did_ranks}
use Rattle.qm_machine.proofs.RowsRead.{at_countable}
use Rattle.qm_machine.proofs.Trying.{kept_can_try, kept_room}
use Rattle.qm_machine.proofs.Steps.{facts_store, at_body, kept_did, step_refused, step_did}
use Rattle.qm_machine.proofs.machine.Machine.go.Goals as goal

-- the line is the next one of the body's tables, and enabled there
pub attempt-requires-clause-can : goal.attempt-requires-clause-can
attempt-requires-clause-can g c =
    let p = c.self.inside.ready in
    let go = rw (← c.self.view_is) at c.requires.go in
    let distinct = rw (← facts_store g.A.Amps.store c.self.inside.body) at (g.met.A.Amps.sound c.self.inside.body.amps).distinct in
    let able = at_body c.self.invariant (λ (t : Tables). enabled p t c.args.rank ≡ true) go.able in
    let is = at_body c.self.invariant (λ (t : Tables). row_next p t c.args.rank ≡ Some c.args.row) go.next in
    kept_can_try c.self.invariant distinct c.args.rank go.known able c.args.row is

pub move_on-requires-clause-known : goal.move_on-requires-clause-known
move_on-requires-clause-known g c =
    let go = rw (← c.self.view_is) at c.requires.go in
    let f = facts g.A.Amps.store c.self.inside.body in
    let done = facts g.A.Amps.store c.attempt.new.body in
    omega (arith, did_ranks f done c.args.rank (list_of c.args.row.acts) c.in-Ok.ensures.did, c.self.invariant.ranks, go.known)

pub move_on-requires-clause-at : goal.move_on-requires-clause-at
move_on-requires-clause-at g c =
    let p = c.self.inside.ready in
    let go = rw (← c.self.view_is) at c.requires.go in
    let f = facts g.A.Amps.store c.self.inside.body in
    let is = at_body c.self.invariant (λ (t : Tables). row_next p t c.args.rank ≡ Some c.args.row) go.next in
    (at_countable p f c.args.rank c.args.row is (facts g.A.Amps.store c.attempt.new.body) c.in-Ok.ensures.did c.self.invariant.in_range go.known).0

pub move_on-requires-clause-stage : goal.move_on-requires-clause-stage
move_on-requires-clause-stage g c =
    let p = c.self.inside.ready in
    let go = rw (← c.self.view_is) at c.requires.go in
    let f = facts g.A.Amps.store c.self.inside.body in
    let is = at_body c.self.invariant (λ (t : Tables). row_next p t c.args.rank ≡ Some c.args.row) go.next in
    (at_countable p f c.args.rank c.args.row is (facts g.A.Amps.store c.attempt.new.body) c.in-Ok.ensures.did c.self.invariant.in_range go.known).1

pub push_reserved-requires : goal.push_reserved-requires
push_reserved-requires g c =
    let p = c.self.inside.ready in
    let go = rw (← c.self.view_is) at c.requires.go in
    let able = at_body c.self.invariant (λ (t : Tables). enabled p t c.args.rank ≡ true) go.able in
    let h : length c.self.inside.schedule.items < vec_capacity c.self.inside.schedule = kept_room c.self.invariant c.args.rank go.known able in
    rw c.self.inside.schedule.ok.0 h

pub invariant_of-self : goal.invariant_of-self
invariant_of-self g c =
    let p = c.self.inside.ready in
    let go = rw (← c.self.view_is) at c.requires.go in
    let f = facts g.A.Amps.store c.self.inside.body in
    let done = facts g.A.Amps.store c.attempt.new.body in
    let after = facts g.A.Amps.store c.move_on.new.self in
    let is = at_body c.self.invariant (λ (t : Tables). row_next p t c.args.rank ≡ Some c.args.row) go.next in
    let events = rw c.input.ensures.value at c.events_here-events.ensures in
    let moved = advanced p f done after c.args.rank c.events_here-events.result c.args.row is (sym events) c.in-Ok.ensures.did c.move_on.ensures in
    rw (c.push_reserved.ensures.items, c.push_reserved.ensures.capacity, c.from.ensures)
    (kept_did c.self.invariant c.args.rank c.args.row go.known go.able go.next after go.running c.in-Ok.ensures.passes moved)

-- a refused attempt leaves the body as it was
pub invariant_of-self-in-Err : goal.invariant_of-self-in-Err
invariant_of-self-in-Err g c =
    let m = c.self.inside in
    let kept : Facts → Type 0 = λ f. IsKept m.text.items m.ready m.schedule.items m.halted f (vec_capacity m.schedule) in
    subst kept (sym c.in-Err.ensures.same) c.self.invariant

pub returns-in-Ok-clause-step : goal.returns-in-Ok-clause-step
returns-in-Ok-clause-step g c =
    let go = rw (← c.self.view_is) at c.requires.go in
    let pushed = rw c.from.ensures at c.push_reserved.ensures.items in
    rw (← c.self.view_is)
    (step_did g.A.Amps.store c.self.inside.body c.self.invariant c.move_on.new.self c.args.rank c.args.row go _ pushed c.in-Ok.ensures.passes)

pub returns-in-Err-clause-step : goal.returns-in-Err-clause-step
returns-in-Err-clause-step g c =
    let go = rw (← c.self.view_is) at c.requires.go in
    rw (c.halt.ensures.answer, c.halt.ensures.new, ← c.self.view_is)
    (inr (step_refused g.A.Amps.store c.self.inside.body c.self.invariant c.attempt.new.body c.args.rank c.args.row go c.in-Err.cause c.in-Err.ensures.stops c.in-Err.ensures.same))
