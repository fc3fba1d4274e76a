use Rattle.qm_print.proofs.GatherLemmas.{Added-puts, Stopped-puts}
use Rattle.qm_print.proofs.blocks.put_turns.Goals as goal

pub returns-in_err-add_turns : goal.returns-in_err-add_turns
returns-in_err-add_turns g c = Stopped-puts _ _ _ _ _ c.from_residual.ensures.1 (rw c.blank-page.ensures at c.in_err-add_turns.ensures)

pub returns : goal.returns
returns g c = Added-puts _ _ _ _ _ _ (rw c.blank-page.ensures at c.in_ok-add_turns.ensures) c.write_out.ensures.puts
