use Rattle.std.proofs.Common.{sym, ◌∙◌}
use Rattle.qm_tool.proofs.AnswerLemmas.{Concludes-written, Concludes-broken}
use Rattle.qm_tool.proofs.top.conclude.Goals as goal

pub returns-in-Ok : goal.returns-in-Ok
returns-in-Ok g c = Concludes-written g.A.Amps.store _ _ _ _ _ (sym c.answer_in.ensures ∙ c.in-Some.is) c.status-status.ensures c.in-Ok.ensures

pub returns-in-Err : goal.returns-in-Err
returns-in-Err g c = Concludes-broken g.A.Amps.store _ _ _ _ (sym c.answer_in.ensures ∙ c.in-Some.is) c.in-Err.ensures
