use Rattle.qm_print.proofs.GatherLemmas.{Added-puts, Stopped-puts}
use Rattle.qm_print.proofs.circuit.put_circuit.Goals as goal

pub returns-in_err-add_circuit : goal.returns-in_err-add_circuit
returns-in_err-add_circuit g c = Stopped-puts _ _ _ _ _ c.from_residual.ensures.1 (rw c.blank-page.ensures at c.in_err-add_circuit.ensures)

pub returns : goal.returns
returns g c = Added-puts _ _ _ _ _ _ (rw c.blank-page.ensures at c.in_ok-add_circuit.ensures) c.write_out.ensures.puts
