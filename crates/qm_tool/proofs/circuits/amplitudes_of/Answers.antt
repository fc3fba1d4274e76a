use Rattle.qm_tool.specs.declared.command.Command.TheVariants as command
use Rattle.qm_tool.specs.Answers.{AnswersReady}
use Rattle.qm_tool.specs.Due.{ValuesNone}
use Rattle.qm_tool.proofs.AnswerLemmas.{at_exit, waits-ready}
use Rattle.qm_tool.proofs.circuits.amplitudes_of.Goals as goal

pub returns-in_err-circuit : goal.returns-in_err-circuit
returns-in_err-circuit c =
    at_exit (AnswersReady _ c.args.ready.now command.MonoAmps) _ _ c.from_residual.ensures.1
    (waits-ready _ c.args.ready.now command.MonoAmps (λ bytes w. ValuesNone w) _ c.in_err-circuit.ensures.err)
