use Rattle.qm_kernels.proofs.StepLaws.{swap_done}
use Rattle.qm_kernels.proofs.steps.SwapStep.step.Goals as goal

pub returns-clause-done : goal.returns-clause-done
returns-clause-done g c = λ past.
    swap_done _ past c.args.self.now.place c.args.low.now c.args.high.now _ _ c.requires.low_half c.requires.high_half c.swap_with_slice.ensures.len c.swap_with_slice.ensures.other_len
    c.swap_with_slice.ensures.after c.swap_with_slice.ensures.other_after
