use Rattle.qm_print.specs.FaultText.{waiting_at}
use Rattle.qm_print.specs.Below.{text_below}
use Rattle.qm_print.specs.Gathering.{Added}
use Rattle.qm_print.proofs.fault.add_waiting.Given as goal

abbrev pub invariant-loop-rank : goal.invariant-loop-rank
invariant-loop-rank g l = Added (g.O.Sink.seen l.fn.sink) (g.O.Sink.seen l.sink) l.fn.page l.page (text_below (waiting_at l.ranks) l.rank)
