use Rattle.std.proofs.Common.{sym, ◌∙◌}
use Rattle.qm_tool.proofs.CallLaws.{Ran-promises, Threads-ran}
use Rattle.qm_tool.proofs.CommandLemmas.{threaded-run}
use Rattle.qm_tool.proofs.threads.tool.Goals as goal

pub answer_by_threads-requires-after_bounds : goal.answer_by_threads-requires-after_bounds
answer_by_threads-requires-after_bounds g c κs within = (threaded-run c.in-Some.play _ (sym c.threads_of.ensures ∙ c.in-Some.is)).1

pub returns-in-Some : goal.returns-in-Some
returns-in-Some g c =
    let is = (threaded-run c.in-Some.play _ (sym c.threads_of.ensures ∙ c.in-Some.is)).0 in
    Ran-promises _ _ _ _ _ _ (Threads-ran _ _ _ _ _ _ _ _ c.in-Some.play is c.answer_by_threads.ensures c.conclude.ensures)
