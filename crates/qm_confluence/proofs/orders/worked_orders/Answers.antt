use Rattle.qm_confluence.proofs.WorkedOrders as worked
use Rattle.qm_confluence.proofs.orders.worked_orders.Goals as goal

pub returns : goal.returns
returns c = worked.worked_orders
