use Rattle.qm_tool.proofs.AnswerLemmas.{run-answer, work-answer}
use Rattle.qm_tool.proofs.top.answer_ready.Goals as goal

pub returns-in_ok-run-in-Run : goal.returns-in_ok-run-in-Run
returns-in_ok-run-in-Run c =
    let run = c.in_ok-run-in-Run.ensures in
    run-answer _ c.args.ready c.in-Run.play _ run.run run.may_put c.args.command c.in-Run.is

pub returns-in_ok-run-in-Job : goal.returns-in_ok-run-in-Job
returns-in_ok-run-in-Job c =
    let run = c.in_ok-run-in-Job.ensures in
    work-answer _ c.args.ready c.in-Job.recipe _ run.run run.may_put c.args.command c.in-Job.is
