use Rattle.std.proofs.Common.{take}
use Rattle.std.specs.List.{flat_map}
use Rattle.qm_print.specs.CircuitText.{letter_line}
use Rattle.qm_print.specs.Gathering.{Added}
use Rattle.qm_print.proofs.circuit.add_letters.Given as goal

abbrev pub invariant-loop-letter : goal.invariant-loop-letter
invariant-loop-letter g l = Added (g.O.Sink.seen l.fn.sink) (g.O.Sink.seen l.sink) l.fn.page l.page (flat_map letter_line (take l.letter-index l.letters))
