use Rattle.std.proofs.Common.{refl}
use Rattle.qm_kernels.proofs.StepLaws.{turn_done}
use Rattle.qm_kernels.proofs.number_steps.TurnStep.step.Goals as goal

pub returns-clause-high_half : goal.returns-clause-high_half
returns-clause-high_half g c = c.turn_each.ensures.size

pub returns-clause-done : goal.returns-clause-done
returns-clause-done g c =
    turn_done g.Z.Numerator.meaning c.args.self.now.place c.args.low.now c.args.high.now c.args.low.now c.turn_each.new.list c.requires.low_half c.requires.high_half g.row.E refl
    c.turn_each.ensures
