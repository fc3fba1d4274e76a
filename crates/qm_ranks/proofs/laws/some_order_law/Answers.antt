use Rattle.qm_ranks.proofs.Existing.{some_order}
use Rattle.qm_ranks.proofs.laws.some_order_law.Goals as goal

pub returns : goal.returns
returns c = some_order
