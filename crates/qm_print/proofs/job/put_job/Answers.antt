use Rattle.qm_print.proofs.GatherLemmas.{Added-puts, Stopped-puts}
use Rattle.qm_print.proofs.job.put_job.Goals as goal

pub returns-in_err-add_job : goal.returns-in_err-add_job
returns-in_err-add_job g c = Stopped-puts _ _ _ _ _ c.from_residual.ensures.1 (rw c.blank-page.ensures at c.in_err-add_job.ensures)

pub returns : goal.returns
returns g c = Added-puts _ _ _ _ _ _ (rw c.blank-page.ensures at c.in_ok-add_job.ensures) c.write_out.ensures.puts
