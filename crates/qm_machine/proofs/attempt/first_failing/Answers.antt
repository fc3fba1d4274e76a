use Rattle.std.proofs.Common.{[], ◌∷◌, Some}
use Rattle.qm_machine.specs.Views.{facts}
use Rattle.qm_machine.proofs.Passing.{asked_first, asked_then}
use Rattle.qm_machine.proofs.attempt.first_failing.Goals as goal

pub returns-in-One : goal.returns-in-One
returns-in-One g c = rw c.in-One.is c.failing.ensures

pub returns-in-Some : goal.returns-in-Some
returns-in-Some g c =
    let f = facts g.A.Amps.store c.args.body.now in
    rw c.in-Two.is (asked_first f c.in-Two.a (c.in-Two.b ∷ []) c.in-Some.cause c.in-Some.ensures)

pub returns-in-None : goal.returns-in-None
returns-in-None g c =
    let f = facts g.A.Amps.store c.args.body.now in
    rw c.in-Two.is (asked_then f c.in-Two.a (c.in-Two.b ∷ []) c.failing-in-None.result c.in-None.ensures c.failing-in-None.ensures)

pub returns-in-Some-failing : goal.returns-in-Some-failing
returns-in-Some-failing g c =
    let f = facts g.A.Amps.store c.args.body.now in
    let t = c.in-Three in
    rw t.is (asked_first f t.a (t.b ∷ t.c ∷ []) c.in-Some-failing.cause c.in-Some-failing.ensures)

pub returns-in-Some-failing-2 : goal.returns-in-Some-failing-2
returns-in-Some-failing-2 g c =
    let f = facts g.A.Amps.store c.args.body.now in
    let t = c.in-Three in
    let e = c.in-Some-failing-2.cause in
    rw t.is (asked_then f t.a (t.b ∷ t.c ∷ []) (Some e) c.in-None-failing.ensures (asked_first f t.b (t.c ∷ []) e c.in-Some-failing-2.ensures))

pub returns-in-None-failing-2 : goal.returns-in-None-failing-2
returns-in-None-failing-2 g c =
    let f = facts g.A.Amps.store c.args.body.now in
    let t = c.in-Three in
    let o = c.failing-in-None-failing-2.result in
    rw t.is (asked_then f t.a (t.b ∷ t.c ∷ []) o c.in-None-failing.ensures (asked_then f t.b (t.c ∷ []) o c.in-None-failing-2.ensures c.failing-in-None-failing-2.ensures))
