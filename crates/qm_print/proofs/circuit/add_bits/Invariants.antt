use Rattle.qm_instr.specs.Bits.{number_of_bits}
use Rattle.qm_ideal.specs.OneCircuits.{bits_of}
use Rattle.qm_print.specs.Bits.{bits_line}
use Rattle.qm_print.specs.Below.{text_below}
use Rattle.qm_print.specs.Gathering.{Added}
use Rattle.qm_print.proofs.circuit.add_bits.Given as goal

abbrev pub invariant-loop-rank : goal.invariant-loop-rank
invariant-loop-rank g l = Added (g.O.Sink.seen l.fn.sink) (g.O.Sink.seen l.sink) l.fn.page l.page (text_below (λ r. bits_line r (number_of_bits (bits_of l.mono r))) l.rank)
