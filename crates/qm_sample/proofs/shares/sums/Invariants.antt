use Rattle.qm_sizes.specs.Parts.{surd_of}
use Rattle.qm_sample.proofs.Passes.{IsPassed}
use Rattle.qm_sample.proofs.shares.sums.Given as goal

abbrev pub invariant-loop-index : goal.invariant-loop-index
invariant-loop-index g l =
    let s = g.A.Amps.store l.amps in
    IsPassed s.live l.fn.w s.value l.index (surd_of l.sums.all) (surd_of l.sums.marked)
