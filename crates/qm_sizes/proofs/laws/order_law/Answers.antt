use Rattle.qm_sizes.proofs.OrderLaw as order
use Rattle.qm_sizes.proofs.laws.order_law.Goals as goal

pub returns : goal.returns
returns c = order.order_law
