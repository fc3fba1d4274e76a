use Rattle.qm_confluence.proofs.Confluence.NamedWires as named
use Rattle.qm_confluence.proofs.orders.ideal_weight_law.Goals as goal

pub returns : goal.returns
returns c = named.ideal_weights
