use Rattle.std.proofs.Common.{◌++◌, codes}
use Rattle.qm_print.specs.FaultText.{waiting_ranks}
use Rattle.qm_print.proofs.GatherLemmas.{Added-gathers, Added-join, Gathers-stop, Stopped-more, Stopped-next}
use Rattle.qm_print.proofs.fault.add_waits.Goals as goal

pub returns-in_err-put : goal.returns-in_err-put
returns-in_err-put g c =
    Gathers-stop _ _ _ _ _ _ _ c.from_residual.ensures.1
    (Stopped-more _ _ _ (codes "waits" ++ waiting_ranks c.args.ranks) (codes "\n") (Stopped-more _ _ _ (codes "waits") (waiting_ranks c.args.ranks) c.in_err-put.ensures))

pub returns-in_err-add_waiting : goal.returns-in_err-add_waiting
returns-in_err-add_waiting g c =
    Gathers-stop _ _ _ _ _ _ _ c.from_residual-in_err-add_waiting.ensures.1
    (Stopped-more _ _ _ (codes "waits" ++ waiting_ranks c.args.ranks) (codes "\n") (Stopped-next _ _ _ _ _ (codes "waits") (waiting_ranks c.args.ranks) c.in_ok-put.ensures c.in_err-add_waiting.ensures))

pub returns : goal.returns
returns g c =
    Added-gathers _ _ _ _ _ _ (codes "waits" ++ waiting_ranks c.args.ranks) (codes "\n") _
    (Added-join _ _ _ _ _ _ (codes "waits") (waiting_ranks c.args.ranks) c.in_ok-put.ensures c.in_ok-add_waiting.ensures)
    c.put-2.ensures
