use Rattle.qm_ranks.proofs.Orders.{one_order}
use Rattle.qm_ranks.proofs.laws.one_order_law.Goals as goal

pub returns : goal.returns
returns c = one_order
