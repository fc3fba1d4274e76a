use Rattle.qm_ranks.proofs.Orders.{lowest_order}
use Rattle.qm_ranks.proofs.laws.lowest_order_law.Goals as goal

pub returns : goal.returns
returns c = lowest_order
