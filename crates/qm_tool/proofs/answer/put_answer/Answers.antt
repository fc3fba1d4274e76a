use Rattle.qm_io.proofs.EndLemmas.{Took-flushed}
use Rattle.qm_tool.proofs.answer.put_answer.Goals as goal

pub returns : goal.returns
returns g c = Took-flushed _ _ _ _ _ c.in_ok-put_text.ensures c.flush.ensures
