use Rattle.std.proofs.Common.{◌++◌, length, codes}
use Rattle.qm_print.specs.Blocks.{turns_head, turn_lines}
use Rattle.qm_print.proofs.GatherLemmas.{Added-gathers, Added-join, Gathers-stop, Stopped-more, Stopped-next}
use Rattle.qm_print.proofs.blocks.add_turns.Goals as goal

pub returns-in_err-add_turns_head : goal.returns-in_err-add_turns_head
returns-in_err-add_turns_head g c =
    Gathers-stop _ _ _ _ _ _ _ c.from_residual.ensures.1
    (Stopped-more _ _ _ (turns_head (length c.args.schedule.now) ++ turn_lines c.args.schedule.now) (codes "end\n") (Stopped-more _ _ _ (turns_head (length c.args.schedule.now)) (turn_lines c.args.schedule.now) c.in_err-add_turns_head.ensures))

pub returns-in_err-add_turn_lines : goal.returns-in_err-add_turn_lines
returns-in_err-add_turn_lines g c =
    Gathers-stop _ _ _ _ _ _ _ c.from_residual-in_err-add_turn_lines.ensures.1
    (Stopped-more _ _ _ (turns_head (length c.args.schedule.now) ++ turn_lines c.args.schedule.now) (codes "end\n") (Stopped-next _ _ _ _ _ (turns_head (length c.args.schedule.now)) (turn_lines c.args.schedule.now) c.in_ok-add_turns_head.ensures c.in_err-add_turn_lines.ensures))

pub returns : goal.returns
returns g c =
    Added-gathers _ _ _ _ _ _ (turns_head (length c.args.schedule.now) ++ turn_lines c.args.schedule.now) (codes "end\n") _
    (Added-join _ _ _ _ _ _ (turns_head (length c.args.schedule.now)) (turn_lines c.args.schedule.now) c.in_ok-add_turns_head.ensures c.in_ok-add_turn_lines.ensures)
    c.put.ensures
