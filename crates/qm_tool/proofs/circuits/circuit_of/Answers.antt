use Rattle.std.proofs.Common.{refl}
use Rattle.qm_tool.specs.declared.command.Command.TheVariants as command
use Rattle.qm_tool.specs.Answers.{AnswersReady}
use Rattle.qm_tool.specs.Due.{Draws, DrawsNone}
use Rattle.qm_tool.proofs.AnswerLemmas.{at_exit, waits-ready}
use Rattle.qm_tool.proofs.circuits.circuit_of.Goals as goal

pub returns-in_err-circuit : goal.returns-in_err-circuit
returns-in_err-circuit g c =
    at_exit (AnswersReady g.A.Amps.store c.args.ready command.Mono) _ _ c.from_residual.ensures.1
    (waits-ready g.A.Amps.store c.args.ready command.Mono (λ bytes w. DrawsNone w) _ c.in_err-circuit.ensures.err)

pub returns : goal.returns
returns g c = let one = c.in_ok-circuit.ensures.ok in record { may_put = one; due = Draws (record { circuit = c.in_ok-circuit.circuit; one = one; whole = refl }) }
