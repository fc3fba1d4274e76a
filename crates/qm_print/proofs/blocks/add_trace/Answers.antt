use Rattle.std.proofs.Common.{◌++◌, length, codes}
use Rattle.qm_proto.specs.Model.Schedules.{state_at_start}
use Rattle.qm_print.specs.Blocks.{turns_head, event_lines}
use Rattle.qm_print.proofs.GatherLemmas.{Added-gathers, Added-join, Gathers-stop, Stopped-more, Stopped-next}
use Rattle.qm_print.proofs.blocks.add_trace.Goals as goal

pub returns-in_err-add_turns_head : goal.returns-in_err-add_turns_head
returns-in_err-add_turns_head g c =
    Gathers-stop _ _ _ _ _ _ _ c.from_residual.ensures.1
    (Stopped-more _ _ _ (turns_head (length c.args.schedule.now) ++ event_lines c.args.input.now (state_at_start c.args.input.now) c.args.schedule.now) (codes "end\n") (Stopped-more _ _ _ (turns_head (length c.args.schedule.now)) (event_lines c.args.input.now (state_at_start c.args.input.now) c.args.schedule.now) c.in_err-add_turns_head.ensures))

pub returns-in_err-add_events : goal.returns-in_err-add_events
returns-in_err-add_events g c =
    Gathers-stop _ _ _ _ _ _ _ c.from_residual-in_err-add_events.ensures.1
    (Stopped-more _ _ _ (turns_head (length c.args.schedule.now) ++ event_lines c.args.input.now (state_at_start c.args.input.now) c.args.schedule.now) (codes "end\n") (Stopped-next _ _ _ _ _ (turns_head (length c.args.schedule.now)) (event_lines c.args.input.now (state_at_start c.args.input.now) c.args.schedule.now) c.in_ok-add_turns_head.ensures c.in_err-add_events.ensures))

pub returns : goal.returns
returns g c =
    Added-gathers _ _ _ _ _ _ (turns_head (length c.args.schedule.now) ++ event_lines c.args.input.now (state_at_start c.args.input.now) c.args.schedule.now) (codes "end\n") _
    (Added-join _ _ _ _ _ _ (turns_head (length c.args.schedule.now)) (event_lines c.args.input.now (state_at_start c.args.input.now) c.args.schedule.now) c.in_ok-add_turns_head.ensures c.in_ok-add_events.ensures)
    c.put.ensures
