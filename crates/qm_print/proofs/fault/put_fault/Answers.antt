use Rattle.qm_print.proofs.GatherLemmas.{Added-puts, Stopped-puts}
use Rattle.qm_print.proofs.fault.put_fault.Goals as goal

pub returns-in_err-add_fault : goal.returns-in_err-add_fault
returns-in_err-add_fault g c = Stopped-puts _ _ _ _ _ c.from_residual.ensures.1 (rw c.blank-page.ensures at c.in_err-add_fault.ensures)

pub returns : goal.returns
returns g c = Added-puts _ _ _ _ _ _ (rw c.blank-page.ensures at c.in_ok-add_fault.ensures) c.write_out.ensures.puts
