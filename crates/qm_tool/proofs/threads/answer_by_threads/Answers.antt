use Rattle.std.proofs.Common.{ℕ, List, refl, subst}
use Rattle.qm_tool.specs.declared.command.Command.TheVariants as command
use Rattle.qm_tool.specs.Answers.{AnswersCall}
use Rattle.qm_tool.specs.Due.{ReadsReady}
use Rattle.qm_tool.specs.Reading.{IsUnready}
use Rattle.qm_tool.proofs.AnswerLemmas.{at_exit, run-call, ungiven-call, unready-call}
use Rattle.qm_tool.proofs.threads.answer_by_threads.Goals as goal

pub returns-in_err-text : goal.returns-in_err-text
returns-in_err-text g c = at_exit (AnswersCall _ _ _ _) _ _ c.from_residual.ensures.1 (ungiven-call _ (command.Run c.args.play) _ _ _ _ refl c.in_err-text.ensures.err)

pub returns-in_err-ready : goal.returns-in_err-ready
returns-in_err-ready g c =
    at_exit (AnswersCall _ _ _ _) _ _ c.from_residual-in_err-ready.ensures.1
    (unready-call _ c.in_ok-text.text.items c.args.play _ _ c.in_ok-text.ensures.came _ (subst (λ (t : List ℕ). IsUnready t c.in_err-ready.field-0.0) c.deref.ensures.value c.in_err-ready.ensures.err))

pub returns : goal.returns
returns g c =
    let run = c.in_ok-run.ensures in
    run-call _ c.in_ok-text.text.items c.args.play _ _ c.in_ok-text.ensures.came c.in_ok-ready.ready _
    (subst (λ (t : List ℕ). ReadsReady t c.in_ok-ready.ready) c.deref.ensures.value c.in_ok-ready.ensures.ok) run.run run.may_put
