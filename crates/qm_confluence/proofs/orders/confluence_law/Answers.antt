use Rattle.qm_confluence.proofs.Confluence.Confluent as confluent
use Rattle.qm_confluence.proofs.orders.confluence_law.Goals as goal

pub returns : goal.returns
returns c = confluent.confluence
