use Rattle.qm_io.proofs.EndLemmas.{Broke-more, Puts-stop, Took-puts}
use Rattle.qm_tool.proofs.running.put_run.Goals as goal

pub returns-in_err-put_end : goal.returns-in_err-put_end
returns-in_err-put_end g c = Puts-stop _ _ _ _ _ c.from_residual.ensures.1 (Broke-more _ _ _ _ c.in_err-put_end.ensures)

pub returns : goal.returns
returns g c = Took-puts _ _ _ _ _ _ c.in_ok-put_end.ensures c.put_block.ensures
