use Rattle.std.proofs.Common.{take}
use Rattle.std.specs.List.{flat_map}
use Rattle.qm_print.specs.Slots.{slot_text}
use Rattle.qm_print.specs.Gathering.{Added}
use Rattle.qm_print.proofs.state.add_slots.Given as goal

abbrev pub invariant-loop-full : goal.invariant-loop-full
invariant-loop-full g l = Added (g.O.Sink.seen l.fn.sink) (g.O.Sink.seen l.sink) l.fn.page l.page (flat_map slot_text (take l.full-index l.slots))
