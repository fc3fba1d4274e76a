use Rattle.qm_ideal.specs.OneCircuits.{slot_of}
use Rattle.qm_print.specs.Slots.{slot_if, slot_lines}
use Rattle.qm_print.specs.Below.{text_below}
use Rattle.qm_print.specs.Gathering.{Added}
use Rattle.qm_print.proofs.circuit.add_rank_slots.Given as goal

abbrev pub invariant-loop-slot : goal.invariant-loop-slot
invariant-loop-slot g l = Added (g.O.Sink.seen l.fn.sink) (g.O.Sink.seen l.sink) l.fn.page l.page (text_below (λ q. slot_lines (slot_if l.rank q (slot_of l.mono l.rank q))) l.slot)
