use Rattle.std.proofs.Common.{◌∙◌, true, not, cond, ap}
use Rattle.std.specs.BTreeSet.{contains}
use Rattle.qm_ideal.specs.Widths.{wire_order}
use Rattle.qm_ideal.proofs.WidthLemmas.{same_wire, noted}
use Rattle.qm_ideal.proofs.width.note.Goals as goal

pub returns : goal.returns
returns c v =
    let had = contains wire_order c.args.named.now v in
    ap not (c.in_ok-insert.ensures.updates.0 v ∙ ap (λ b. cond b true had) (same_wire c.args.w v)) ∙ noted _ had
