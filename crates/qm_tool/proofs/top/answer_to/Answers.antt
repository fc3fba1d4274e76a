use Rattle.std.proofs.Common.{sym, ◌∙◌}
use Rattle.qm_tool.specs.Answers.{AnswersCall}
use Rattle.qm_tool.proofs.AnswerLemmas.{at_exit, text-call, ungiven-call, usage-answer}
use Rattle.qm_tool.proofs.top.answer_to.Goals as goal

pub returns-in_default-clause-due : goal.returns-in_default-clause-due
returns-in_default-clause-due g c = usage-answer _ _ _ (sym c.plain_of.ensures.command ∙ c.in_default.is)

pub returns-in_err-text-clause-due : goal.returns-in_err-text-clause-due
returns-in_err-text-clause-due g c =
    at_exit (AnswersCall _ _ _ _) _ _ c.from_residual.ensures.1 (ungiven-call _ c.in-Some.command _ _ _ _ (sym c.plain_of.ensures.command ∙ c.in-Some.is) c.in_err-text.ensures.err)

pub returns-clause-due : goal.returns-clause-due
returns-clause-due g c =
    text-call _ c.in_ok-text.text.items c.in-Some.command _ _ _ _ (sym c.plain_of.ensures.command ∙ c.in-Some.is) c.in_ok-text.ensures.came c.answer_text.ensures
