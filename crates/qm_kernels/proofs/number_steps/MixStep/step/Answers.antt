use Rattle.std.proofs.Common.{sym, ◌∙◌}
use Rattle.qm_kernels.proofs.StepLaws.{mix_done, mix_held}
use Rattle.qm_kernels.proofs.number_steps.MixStep.step.Goals as goal

pub mix-requires-clause-fits : goal.mix-requires-clause-fits
mix-requires-clause-fits g c =
    mix_held g.Z.Numerator.meaning c.args.self.now.place c.args.low.now c.args.high.now c.args.low.now c.args.high.now c.requires.low_half c.requires.high_half g.Z.Numerator.holds c.requires.may

pub returns-clause-low_half : goal.returns-clause-low_half
returns-clause-low_half g c = c.mix.ensures.sums.size

pub returns-clause-high_half : goal.returns-clause-high_half
returns-clause-high_half g c = c.mix.ensures.differences.size ∙ c.requires.low_half ∙ sym c.requires.high_half

pub returns-clause-done : goal.returns-clause-done
returns-clause-done g c =
    mix_done g.Z.Numerator.meaning c.args.self.now.place c.args.low.now c.args.high.now c.mix.new.low c.mix.new.high c.requires.low_half c.requires.high_half
    c.mix.ensures.sums c.mix.ensures.differences
