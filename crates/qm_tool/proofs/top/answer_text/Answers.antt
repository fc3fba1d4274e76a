use Rattle.std.proofs.Common.{ℕ, List, subst}
use Rattle.qm_tool.specs.Answers.{AnswersText}
use Rattle.qm_tool.specs.Due.{ReadsReady}
use Rattle.qm_tool.specs.Reading.{IsUnready}
use Rattle.qm_tool.proofs.AnswerLemmas.{at_exit, gen-answer, ready-text, unready-text}
use Rattle.qm_tool.proofs.top.answer_text.Goals as goal

pub returns-in-Gen : goal.returns-in-Gen
returns-in-Gen c = gen-answer _ c.args.text c.in-Gen.recipe c.args.command c.in-Gen.is

pub returns-in_err-ready : goal.returns-in_err-ready
returns-in_err-ready c =
    at_exit (AnswersText _ c.args.text.items c.args.command) _ _ c.from_residual.ensures.1
    (unready-text _ c.args.text.items c.args.command _ c.requires.made (subst (λ (t : List ℕ). IsUnready t c.in_err-ready.field-0.0) c.deref.ensures.value c.in_err-ready.ensures.err))

pub returns : goal.returns
returns c =
    ready-text _ c.args.text.items c.args.command c.in_ok-ready.ready _
    (subst (λ (t : List ℕ). ReadsReady t c.in_ok-ready.ready) c.deref.ensures.value c.in_ok-ready.ensures.ok) c.answer_ready.ensures
