use Rattle.qm_print.proofs.GatherLemmas.{Took-gathers}
use Rattle.qm_print.proofs.page.Page.put.Goals as goal

pub returns : goal.returns
returns g c = rw c.in_ok-write_out.ensures.blank (Took-gathers _ _ _ _ _ _ c.in_ok-write_out.ensures.puts c.put_bytes.ensures)
