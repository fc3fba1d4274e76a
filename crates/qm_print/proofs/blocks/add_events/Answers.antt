use Rattle.std.proofs.Common.{◌+◌, ◌++◌, take, drop, fold, get_or}
use Rattle.qm_proto.specs.Model.Runs.{next}
use Rattle.qm_proto.specs.Model.Schedules.{state_at_start}
use Rattle.qm_print.specs.Blocks.{event_line, event_lines, event_name}
use Rattle.qm_print.proofs.GatherLemmas.{Added-join, Gathers-stop, Stopped-more, Stopped-next}
use Rattle.qm_print.proofs.WalkLemmas.{HasWalked-next, lines_next, lines_so_far}
use Rattle.qm_print.proofs.blocks.add_events.Goals as goal

pub returns-in_err-add_event : goal.returns-in_err-add_event
returns-in_err-add_event g c =
    let p = c.args.input.now in
    let s = c.args.schedule.now in
    let n = c.loop-rank.rank-index in
    let first = state_at_start p in
    let walked = c.loop-rank.invariant.1 in
    let line = event_line (get_or s n 0) (event_name c.pass-event.result) in
    let so_far = lines_next p s n c.loop-rank.positions c.loop-rank-test.true walked c.pass-event.result c.pass-event.ensures.event in
    Gathers-stop _ _ _ _ _ _ _ c.from_residual.ensures.1
    (rw (lines_so_far p s n c.loop-rank.positions c.loop-rank-test.true walked, so_far)
    (Stopped-more _ _ _ (event_lines p first (take n s) ++ line) (event_lines p (fold (next p) first (take (n + 1) s)) (drop (n + 1) s))
    (Stopped-next _ _ _ _ _ (event_lines p first (take n s)) line c.loop-rank.invariant.0 c.in_err-add_event.ensures)))

pub loop-rank-preserved : goal.loop-rank-preserved
loop-rank-preserved g c =
    let p = c.args.input.now in
    let s = c.args.schedule.now in
    let n = c.loop-rank.rank-index in
    let first = state_at_start p in
    let walked = c.loop-rank.invariant.1 in
    let line = event_line (get_or s n 0) (event_name c.pass-event.result) in
    let so_far = lines_next p s n c.loop-rank.positions c.loop-rank-test.true walked c.pass-event.result c.pass-event.ensures.event in (
      rw so_far (Added-join _ _ _ _ _ _ (event_lines p first (take n s)) line c.loop-rank.invariant.0 c.in_ok-add_event.ensures),
      rw c.pass-event.ensures.position (HasWalked-next p s n c.loop-rank.positions c.loop-rank-test.true walked),
    )
