use Rattle.std.proofs.lemmas.Result.{on_ok_weaker}
use Rattle.qm_store.proofs.ScaledAmpsAmps.apply.Goals as goal

pub returns-in-Phase-clause-stands : goal.returns-in-Phase-clause-stands
returns-in-Phase-clause-stands c = rw c.in-Phase.is c.phase.ensures.stands

pub returns-in-Flip-clause-stands : goal.returns-in-Flip-clause-stands
returns-in-Flip-clause-stands c = rw c.in-Flip.is c.flip.ensures.stands

pub returns-in-Cx-clause-stands : goal.returns-in-Cx-clause-stands
returns-in-Cx-clause-stands c = rw c.in-Cx.is c.cx.ensures.stands

pub returns-in-Cz-clause-stands : goal.returns-in-Cz-clause-stands
returns-in-Cz-clause-stands c = rw c.in-Cz.is c.cz.ensures.stands

pub returns-in-Pair-clause-stands : goal.returns-in-Pair-clause-stands
returns-in-Pair-clause-stands c = rw c.in-Pair.is c.pair.ensures.stands

pub returns-in-Keep-clause-stands : goal.returns-in-Keep-clause-stands
returns-in-Keep-clause-stands c = rw c.in-Keep.is c.keep.ensures.stands

pub returns-in-Take-clause-stands : goal.returns-in-Take-clause-stands
returns-in-Take-clause-stands c = rw c.in-Take.is c.take.ensures.stands

pub returns-in-Rename-clause-stands : goal.returns-in-Rename-clause-stands
returns-in-Rename-clause-stands c = rw c.in-Rename.is c.rename.ensures.stands

pub returns-in-Had-clause-stands : goal.returns-in-Had-clause-stands
returns-in-Had-clause-stands c = on_ok_weaker c.had.result (λ does. rw c.in-Had.is does.stands) c.had.ensures.does
