use Rattle.std.proofs.Common.{length, sym}
use Rattle.qm_cost.specs.Longest.{AreMarked}
use Rattle.qm_cost.specs.Turns.{turns_of}
use Rattle.qm_cost.proofs.Ending.{empty_exactly, idle_alone}
use Rattle.qm_cost.proofs.Reporting.{marks_below}
use Rattle.qm_cost.proofs.Stepping.{ok_along, cost_so}
use Rattle.qm_cost.proofs.cost.Goals as goal

pub report-requires-clause-few : goal.report-requires-clause-few
report-requires-clause-few c = rw c.deref.ensures.value c.in_ok-marks.ensures.few

pub report-requires-clause-below : goal.report-requires-clause-below
report-requires-clause-below c =
    let so : AreMarked (turns_of c.args.ready.now c.args.schedule.now) c.args.delays c.deref.result.now (length c.args.schedule.now) =
    rw (c.deref.ensures.value, sym c.input.ensures.value) c.in_ok-marks.ensures.marked in
    marks_below (turns_of c.args.ready.now c.args.schedule.now) c.args.delays c.deref.result.now (length c.args.schedule.now) so

pub returns-clause-cost : goal.returns-clause-cost
returns-clause-cost c =
    let so : AreMarked (turns_of c.args.ready.now c.args.schedule.now) c.args.delays c.deref.result.now (length c.args.schedule.now) =
    rw (c.deref.ensures.value, sym c.input.ensures.value) c.in_ok-marks.ensures.marked in
    ok_along _ _ (λ r h. cost_so c.args.ready.now c.args.schedule.now c.args.delays c.deref.result.now so r h) c.report.result c.report.ensures

pub returns-clause-empty : goal.returns-clause-empty
returns-clause-empty c =
    let so : AreMarked (turns_of c.args.ready.now c.args.schedule.now) c.args.delays c.deref.result.now (length c.args.schedule.now) =
    rw (c.deref.ensures.value, sym c.input.ensures.value) c.in_ok-marks.ensures.marked in
    ok_along _ _
    (λ r h. empty_exactly c.args.ready.now c.args.schedule.now c.args.delays r
    (cost_so c.args.ready.now c.args.schedule.now c.args.delays c.deref.result.now so r h))
    c.report.result c.report.ensures

pub returns-clause-idle : goal.returns-clause-idle
returns-clause-idle c =
    let so : AreMarked (turns_of c.args.ready.now c.args.schedule.now) c.args.delays c.deref.result.now (length c.args.schedule.now) =
    rw (c.deref.ensures.value, sym c.input.ensures.value) c.in_ok-marks.ensures.marked in
    ok_along _ _
    (λ r h. idle_alone c.args.ready.now c.args.schedule.now c.args.delays r
    (cost_so c.args.ready.now c.args.schedule.now c.args.delays c.deref.result.now so r h))
    c.report.result c.report.ensures
