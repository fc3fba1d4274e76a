use Rattle.std.proofs.Common.{drop}
use Rattle.qm_proto.specs.Model.Ideal.{width}
use Rattle.qm_ideal.specs.Widths.{is_unnamed}
use Rattle.qm_ideal.proofs.WidthLemmas.{IsSoWide}
use Rattle.qm_ideal.proofs.width.width.Given as goal

abbrev pub invariant-loop-letter : goal.invariant-loop-letter
invariant-loop-letter l =
    IsSoWide (is_unnamed l.named) l.live.items l.widest (drop l.letter-index l.letters) l.ends (width l.letters l.ends)
