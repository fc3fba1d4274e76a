use Rattle.qm_print.proofs.GatherLemmas.{Added-gathers, Added-join, Gathers-stop, Stopped-more, Stopped-next}
use Rattle.qm_print.proofs.page.Page.put_wire.Goals as goal

pub returns-in_err-put_number : goal.returns-in_err-put_number
returns-in_err-put_number g c =
    Gathers-stop _ _ _ _ _ _ _ c.from_residual.ensures.1
    (Stopped-more _ _ _ _ _ (Stopped-more _ _ _ _ _ c.in_err-put_number.ensures))

pub returns-in_err-put : goal.returns-in_err-put
returns-in_err-put g c =
    Gathers-stop _ _ _ _ _ _ _ c.from_residual-in_err-put.ensures.1
    (Stopped-more _ _ _ _ _ (Stopped-next _ _ _ _ _ _ _ c.in_ok-put_number.ensures c.in_err-put.ensures))

pub returns : goal.returns
returns g c =
    Added-gathers _ _ _ _ _ _ _ _ _
    (Added-join _ _ _ _ _ _ _ _ c.in_ok-put_number.ensures c.in_ok-put.ensures)
    c.put_number-2.ensures
