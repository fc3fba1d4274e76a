use Rattle.qm_ranks.proofs.Orders.{legal_order}
use Rattle.qm_ranks.proofs.laws.legal_order_law.Goals as goal

pub returns : goal.returns
returns c = legal_order
