use Rattle.qm_proto.specs.Model.Schedules.{IsLegal}
use Rattle.qm_print.proofs.GatherLemmas.{Added-puts, Stopped-puts}
use Rattle.qm_print.proofs.blocks.put_trace.Goals as goal

pub returns-in_err-add_trace : goal.returns-in_err-add_trace
returns-in_err-add_trace g c = Stopped-puts _ _ _ _ _ c.from_residual.ensures.1 (rw (c.blank-page.ensures, c.input.ensures.value) at c.in_err-add_trace.ensures)

pub returns : goal.returns
returns g c = Added-puts _ _ _ _ _ _ (rw (c.blank-page.ensures, c.input.ensures.value) at c.in_ok-add_trace.ensures) c.write_out.ensures.puts

pub add_trace-requires : goal.add_trace-requires
unfolding IsLegal
add_trace-requires g c = rw c.input.ensures.value c.requires
