use Rattle.std.proofs.Common.{refl}
use Rattle.qm_kernels.proofs.PlaceFits.{lower_place}
use Rattle.qm_kernels.proofs.StepLaws.{sign_done}
use Rattle.qm_kernels.proofs.number_steps.SignUpperStep.step.Goals as goal

pub phase-requires-clause-place : goal.phase-requires-clause-place
phase-requires-clause-place g c = lower_place _ c.args.self.now.high c.args.self.now.low c.requires.high_half c.requires.may

pub returns-clause-high_half : goal.returns-clause-high_half
returns-clause-high_half g c = c.phase.ensures.size

pub returns-clause-done : goal.returns-clause-done
returns-clause-done g c = λ below.
    let s = c.args.self.now in
    sign_done g.Z.Numerator.meaning s.high c.args.low.now c.args.high.now c.args.low.now c.phase.new.list c.requires.low_half c.requires.high_half s.low below refl c.phase.ensures
