use Rattle.std.proofs.Common.{arith}
use Rattle.qm_kernels.proofs.PlaceFits.{lower_place}
use Rattle.qm_kernels.proofs.StepLaws.{exchange_done}
use Rattle.qm_kernels.proofs.steps.ExchangeStep.step.Goals as goal

pub exchange-requires-clause-place : goal.exchange-requires-clause-place
exchange-requires-clause-place g c = lower_place _ c.args.self.now.target c.args.self.now.control c.requires.low_half c.requires.may

pub returns-clause-done : goal.returns-clause-done
returns-clause-done g c = λ below past.
    let s = c.args.self.now in
    exchange_done (λ x. x) past s.target c.args.low.now c.args.high.now c.exchange.new.one c.exchange.new.other c.requires.low_half c.requires.high_half
    c.exchange.ensures.one.size c.exchange.ensures.other.size s.control below
    (λ i h. c.exchange.ensures.one.entries past i (omega (arith, c.requires.low_half)))
    (λ r h. c.exchange.ensures.other.entries past r (omega (arith, c.requires.high_half)))
