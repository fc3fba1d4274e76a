use Rattle.std.proofs.Common.{◌∙◌, sym, ap, length}
use Rattle.qm_expand.specs.Drafts.{Draft}
use Rattle.qm_expand.specs.Walk.{numbers_in}
use Rattle.qm_expand.proofs.SizeLemmas.{length-numbers_in, length-sized_programs}
use Rattle.qm_expand.proofs.program.expand_sized.Goals as goal

pub expand_blocks-requires-clause-ranks : goal.expand_blocks-requires-clause-ranks
expand_blocks-requires-clause-ranks c =
    let h = c.args.head.now in
    sym
    (ap (λ (d : Draft). length d.programs.ranks) c.in-Ok.ensures
    ∙ length-sized_programs h.version h.ranks (numbers_in h.qubits.now) (numbers_in h.buffers.now)
    (length-numbers_in h.qubits.now ∙ c.requires.head.qubits) (length-numbers_in h.buffers.now ∙ c.requires.head.buffers))
