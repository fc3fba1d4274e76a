use Rattle.std.proofs.Common.{◌≡◌}
use Rattle.qm_expand.specs.Walk.{numbers_in}
use Rattle.qm_expand.proofs.SizeLemmas.{sized_upto}
use Rattle.qm_expand.proofs.draft.Draft.start.Given as goal

abbrev pub invariant-loop-rank : goal.invariant-loop-rank
invariant-loop-rank l = l.input ≡ sized_upto l.head.version l.head.ranks (numbers_in l.head.qubits.now) (numbers_in l.head.buffers.now) l.rank
