use Rattle.std.proofs.Common.{sym, ◌∙◌}
use Rattle.qm_zomega.specs.Numbers.{IsDivisible}
use Rattle.qm_kernels.proofs.StepLaws.{mix_held}
use Rattle.qm_kernels.proofs.HalvingLaws.{halved_mix_done}
use Rattle.qm_kernels.proofs.halving.MixHalvedStep.step.Goals as goal

pub mix_halved-requires-clause-fits : goal.mix_halved-requires-clause-fits
mix_halved-requires-clause-fits g c = λ i h.
    let both = mix_held g.Z.Numerator.meaning c.args.self.now.place c.args.low.now c.args.high.now c.args.low.now c.args.high.now c.requires.low_half c.requires.high_half
    (λ z. g.Z.Numerator.holds z × IsDivisible z) c.requires.may i h in
    (both.0.0, both.1.0)

pub mix_halved-requires-clause-divisible : goal.mix_halved-requires-clause-divisible
mix_halved-requires-clause-divisible g c = λ i h.
    let both = mix_held g.Z.Numerator.meaning c.args.self.now.place c.args.low.now c.args.high.now c.args.low.now c.args.high.now c.requires.low_half c.requires.high_half
    (λ z. g.Z.Numerator.holds z × IsDivisible z) c.requires.may i h in
    (both.0.1, both.1.1)

pub returns-clause-low_half : goal.returns-clause-low_half
returns-clause-low_half g c = c.mix_halved.ensures.sums.size

pub returns-clause-high_half : goal.returns-clause-high_half
returns-clause-high_half g c = c.mix_halved.ensures.differences.size ∙ c.requires.low_half ∙ sym c.requires.high_half

pub returns-clause-done : goal.returns-clause-done
returns-clause-done g c =
    halved_mix_done g.Z.Numerator.meaning c.args.self.now.place c.args.low.now c.args.high.now c.mix_halved.new.low c.mix_halved.new.high c.requires.low_half c.requires.high_half
    c.mix_halved.ensures.sums c.mix_halved.ensures.differences
