use Rattle.std.proofs.Common.{take}
use Rattle.std.specs.List.{flat_map}
use Rattle.qm_print.specs.Gathering.{Added}
use Rattle.qm_print.specs.Pieces.{piece_text}
use Rattle.qm_print.proofs.page.Page.put_all.Given as goal

abbrev pub invariant-loop-piece : goal.invariant-loop-piece
invariant-loop-piece g l = Added (g.O.Sink.seen l.fn.sink) (g.O.Sink.seen l.sink) l.fn.self l.self (flat_map piece_text (take l.piece-index l.pieces))
