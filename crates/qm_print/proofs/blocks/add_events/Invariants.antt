use Rattle.std.proofs.Common.{take}
use Rattle.qm_proto.specs.Model.Schedules.{state_at_start}
use Rattle.qm_print.specs.Blocks.{event_lines}
use Rattle.qm_print.specs.Gathering.{Added}
use Rattle.qm_print.proofs.WalkLemmas.{HasWalked}
use Rattle.qm_print.proofs.blocks.add_events.Given as goal

abbrev pub invariant-loop-rank : goal.invariant-loop-rank
invariant-loop-rank g l =
    Added (g.O.Sink.seen l.fn.sink) (g.O.Sink.seen l.sink) l.fn.page l.page (event_lines l.input (state_at_start l.input) (take l.rank-index l.schedule))
    × HasWalked l.input l.schedule l.rank-index l.positions
