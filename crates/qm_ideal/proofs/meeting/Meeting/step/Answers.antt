use Rattle.std.proofs.Common.{◌∙◌, sym, ap}
use Rattle.qm_proto.specs.Model.Rows.{instr_at}
use Rattle.qm_ideal.specs.MeetingViews.{maybe_shape}
use Rattle.qm_ideal.proofs.ShapeLemmas.{stepped_so}
use Rattle.qm_ideal.proofs.meeting.Meeting.step.Goals as goal

pub returns-clause-did : goal.returns-clause-did
returns-clause-did c =
    let moved = c.move_on.ensures in
    let positions = c.in_ok-do_move.ensures.positions in
    let next = sym c.shape.ensures ∙ ap maybe_shape c.in-Some.is in
    stepped_so c.args.self.now c.do_move.new.self c.move_on.new.self (instr_at c.args.input.now) c.args.rank c.in-Some.shape c.events-events.result
    c.events-events.ensures next positions c.in_ok-do_move.ensures.lanes moved.at moved.stage moved.lanes
