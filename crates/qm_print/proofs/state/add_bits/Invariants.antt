use Rattle.std.proofs.Common.{get_or}
use Rattle.qm_print.specs.Bits.{bits_line}
use Rattle.qm_print.specs.Below.{text_below}
use Rattle.qm_print.specs.Gathering.{Added}
use Rattle.qm_print.proofs.state.add_bits.Given as goal

abbrev pub invariant-loop-rank : goal.invariant-loop-rank
invariant-loop-rank g l = Added (g.O.Sink.seen l.fn.sink) (g.O.Sink.seen l.sink) l.fn.page l.page (text_below (λ r. bits_line r (get_or l.head.bits r 0)) l.rank)
