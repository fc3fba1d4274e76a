use Rattle.qm_ideal.specs.OneCircuits.{slot_of}
use Rattle.qm_instr.specs.Programs.{rank_of}
use Rattle.qm_print.specs.Slots.{rank_slots, slot_lines}
use Rattle.qm_print.specs.Below.{text_below}
use Rattle.qm_print.specs.Gathering.{Added}
use Rattle.qm_print.proofs.circuit.add_slots.Given as goal

abbrev pub invariant-loop-rank : goal.invariant-loop-rank
invariant-loop-rank g l = Added (g.O.Sink.seen l.fn.sink) (g.O.Sink.seen l.sink) l.fn.page l.page (text_below (λ r. slot_lines (rank_slots r (rank_of l.input r).qubits (slot_of l.mono r))) l.rank)
