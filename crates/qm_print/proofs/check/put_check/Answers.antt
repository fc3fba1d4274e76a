use Rattle.qm_print.proofs.GatherLemmas.{Added-puts, Stopped-puts}
use Rattle.qm_print.proofs.check.put_check.Goals as goal

pub returns-in_err-add_check : goal.returns-in_err-add_check
returns-in_err-add_check g c = Stopped-puts _ _ _ _ _ c.from_residual.ensures.1 (rw c.blank-page.ensures at c.in_err-add_check.ensures)

pub returns : goal.returns
returns g c = Added-puts _ _ _ _ _ _ (rw c.blank-page.ensures at c.in_ok-add_check.ensures) c.write_out.ensures.puts
