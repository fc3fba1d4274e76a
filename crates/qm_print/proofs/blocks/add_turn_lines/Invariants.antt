use Rattle.std.proofs.Common.{take}
use Rattle.std.specs.List.{flat_map}
use Rattle.qm_print.specs.Blocks.{turn_line}
use Rattle.qm_print.specs.Gathering.{Added}
use Rattle.qm_print.proofs.blocks.add_turn_lines.Given as goal

abbrev pub invariant-loop-rank : goal.invariant-loop-rank
invariant-loop-rank g l = Added (g.O.Sink.seen l.fn.sink) (g.O.Sink.seen l.sink) l.fn.page l.page (flat_map turn_line (take l.rank-index l.schedule))
